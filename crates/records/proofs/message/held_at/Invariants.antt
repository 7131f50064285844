use Rattle.std.proofs.Common.{◌≡◌, drop}
use Rattle.records.specs.Messages.{held_at}
use Rattle.records.proofs.message.held_at.Given as goal

abbrev pub invariant-loop-span : goal.invariant-loop-span
invariant-loop-span l = held_at (drop l.span-index l.spans) l.left ≡ held_at l.spans l.initial.left
