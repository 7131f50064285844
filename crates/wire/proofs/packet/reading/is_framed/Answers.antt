use Rattle.std.proofs.Common.{◌≡◌, ℕ, ◌-◌, Bool, List, [], ◌∷◌, length, get_or, take, drop, refl, arith}
use Rattle.std.specs.Str.{bytes_eq}
use Rattle.std.proofs.lemmas.Bool.Decides.{nat_tests}
use Rattle.std.proofs.lemmas.Cmp.{nat_list_eq_equiv}
use Rattle.wire.specs.CheckWord.{check_word}
use Rattle.wire.specs.Digits.{in_digits, bytes_of}
use Rattle.wire.specs.Packet.{framed, closed}
use Rattle.wire.proofs.packet.reading.is_framed.Goals as goal

-- the end that the code compares
compared : (bs ds five : List ℕ) (w : ℕ) (r : Bool) → w ≡ check_word (take (length bs - 5) bs) → ds ≡ in_digits (bytes_of w)
    → five ≡ get_or ds 0 0 ∷ (get_or ds 1 0 ∷ (get_or ds 2 0 ∷ (get_or ds 3 0 ∷ (3 ∷ [])))) → r ≡ bytes_eq five (drop (length bs - 5) bs) → r ≡ closed (check_word (take (length bs - 5) bs)) bs
unfolding closed
compared bs ds five w r v d f t = let s = nat_list_eq_equiv.symm five (drop (length bs - 5) bs) in cc

pub returns-clause-frame : goal.returns-clause-frame
unfolding framed
returns-clause-frame c =
    let e = compared _ _ _ _ _ c.check_word.ensures.word c.word_digits.ensures refl c.ends_with.ensures.value in
    grind (arith, nat_tests)
