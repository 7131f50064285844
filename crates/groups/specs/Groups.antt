-- The record of a group, and the record with one thing of it altered.
use Rattle.std.specs.Prelude.{ℕ, ◌+◌, min, Bool, true, List, Some, None, Option}
use Rattle.groups.specs.declared.group.Direct.{Direct}
use Rattle.records.specs.declared.plan.Shows.{Shows}
use Rattle.groups.specs.declared.group.GroupRecord.{GroupRecord}
use Rattle.groups.specs.Plans.{no_plans}

-- A group at first: with power, enabled, nothing ordered.
abbrev pub opening : GroupRecord
opening = record { direct = None; plans = record { slots = no_plans }; powered = true; enabled = true }

abbrev pub with_direct : Option Direct → GroupRecord → GroupRecord
with_direct d g = record { direct = d; plans = g.plans; powered = g.powered; enabled = g.enabled }

abbrev pub with_plans : List (Option ℕ) → GroupRecord → GroupRecord
with_plans xs g = record { direct = g.direct; plans = record { slots = xs }; powered = g.powered; enabled = g.enabled }

abbrev pub with_power : Bool → GroupRecord → GroupRecord
with_power b g = record { direct = g.direct; plans = g.plans; powered = b; enabled = g.enabled }

abbrev pub with_enabled : Bool → GroupRecord → GroupRecord
with_enabled b g = record { direct = g.direct; plans = g.plans; powered = g.powered; enabled = b }

-- an order that was accepted just now
abbrev pub fresh : Shows → Option Direct
fresh s = Some (record { shows = s; age = 0 })

-- a tick later; the age stops at the greatest that it can have
abbrev pub older : Option Direct → Option Direct
older None = None
older (Some d) = Some (record { shows = d.shows; age = min (d.age + 1) 4294967295 })
