use Rattle.std.proofs.Common.{◌≡◌, ◌*◌, take}
use Rattle.wire.specs.Digits.{in_digits}
use Rattle.wire.proofs.packet.writing.put_digits.Given as goal

abbrev pub invariant-loop-i : goal.invariant-loop-i
invariant-loop-i l = take (2 * l.i) l.out ≡ in_digits (take l.i l.bytes)
