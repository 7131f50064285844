use Rattle.std.proofs.Common.{◌≡◌, ◌++◌, [], ◌∷◌, ◌∙◌, arith}
use Rattle.std.proofs.lemmas.List.{take_rest, take_all, length_push, length-drop}
use Rattle.octets.specs.Held.{held}
use Rattle.wire.proofs.Spelling.{from_digits-more}
use Rattle.wire.proofs.packet.reading.from_digits.Goals as goal

pub loop-left-preserved : goal.loop-left-preserved
loop-left-preserved c =
    let e = from_digits-more _ _ _ _ c.in-len2-up.len_at_least c.loop-left.invariant.0 c.in_ok-byte_of.ensures.value in
    let p : held c.push.new.self ≡ held c.loop-left.bytes ++ c.in_ok-byte_of.field-0 ∷ [] = c.push.ensures ∙ take_all 768 _ (omega (arith, length_push (held c.loop-left.bytes) c.in_ok-byte_of.field-0)) in
    rw (p, take_rest c.loop-left.left.now 2) (e, omega (arith, length_push (held c.loop-left.bytes) c.in_ok-byte_of.field-0, length-drop 2 c.loop-left.left.now))
