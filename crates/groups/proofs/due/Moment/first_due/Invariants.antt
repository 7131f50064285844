use Rattle.std.proofs.Common.{◌≡◌, drop}
use Rattle.groups.specs.Due.{first_due}
use Rattle.groups.proofs.due.Moment.first_due.Given as goal

abbrev pub invariant-loop-slot : goal.invariant-loop-slot
invariant-loop-slot l = first_due l.store l.self (drop l.slot-index l.plans.slots) ≡ first_due l.store l.self l.plans.slots
