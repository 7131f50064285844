use Rattle.std.proofs.Common.{◌≡◌, ◌≤◌}
use Rattle.analog.specs.Codes.{count, mark_from}
use Rattle.analog.proofs.reading.marks_reached.Given as goal

abbrev pub invariant-loop-k : goal.invariant-loop-k
invariant-loop-k l = (l.reached ≡ count (mark_from l.first) l.k l.x) × (l.reached ≤ l.k)
