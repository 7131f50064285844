use Rattle.std.proofs.Common.{◌≡◌, take}
use Rattle.std.specs.List.{flat_map}
use Rattle.octets.specs.Held.{held}
use Rattle.records.specs.Plans.{line_of}
use Rattle.records.proofs.plan.lines.Given as goal

abbrev pub invariant-loop-entry : goal.invariant-loop-entry
invariant-loop-entry l = held l.lines ≡ flat_map line_of (take l.entry-index l.entries)
