use Rattle.std.proofs.Common.{◌≡◌, ◌+◌, ◌*◌, ◌++◌, length}
use Rattle.std.specs.Option.{option_map}
use Rattle.octets.specs.Held.{held}
use Rattle.wire.specs.Digits.{from_digits}
use Rattle.wire.proofs.packet.reading.from_digits.Given as goal

abbrev pub invariant-loop-left : goal.invariant-loop-left
invariant-loop-left l = (from_digits l.digits ≡ option_map (λ rest. held l.bytes ++ rest) (from_digits l.left)) × (2 * length (held l.bytes) + length l.left ≡ length l.digits)

abbrev pub decreases-loop-left : goal.decreases-loop-left
decreases-loop-left l = length l.left
