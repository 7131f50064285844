use Rattle.std.proofs.Common.{◌≡◌, drop}
use Rattle.groups.specs.Plans.{next_above}
use Rattle.groups.proofs.Enabling.{nearest}
use Rattle.groups.proofs.plans.EnabledPlans.next_above.Given as goal

abbrev pub invariant-loop-slot : goal.invariant-loop-slot
invariant-loop-slot l = nearest l.least (next_above (drop l.slot-index l.self.slots) l.number) ≡ next_above l.self.slots l.number
