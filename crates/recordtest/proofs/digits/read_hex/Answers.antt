use Rattle.std.proofs.Common.{◌+◌, ◌*◌, ◌≤◌, ◌++◌, ◌∷◌, [], length, arith, of_calls}
use Rattle.std.proofs.lemmas.List.{length-take}
use Rattle.octets.specs.Held.{held}
use Rattle.recordtest.proofs.digits.read_hex.Goals as goal

pub loop-pair-preserved-then-pair-lt3 : goal.loop-pair-preserved-then-pair-lt3
loop-pair-preserved-then-pair-lt3 c =
    let few = length-take 800 (held c.loop-pair.bytes ++ (c.digit.result * 16 + c.digit-in-len2.result) ∷ []) in
    (search of_calls, tt, rw c.push.ensures (omega (arith, few)))
