use Rattle.std.proofs.Common.{◌≤◌, length}
use Rattle.octets.specs.Held.{held}
use Rattle.recordtest.proofs.digits.read_hex.Given as goal

abbrev pub invariant-loop-pair : goal.invariant-loop-pair
invariant-loop-pair l =
    goal.iterator-loop-pair.can_next l.pair-iterator
    × goal.iterator-loop-pair.is_finite l.pair-iterator
    × (length (held l.bytes) ≤ 800)
