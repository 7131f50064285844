-- Parts that are laid into lent memory, one behind another.
use Rattle.std.proofs.Common.{◌≡◌, ℕ, ◌+◌, ◌/◌, ◌%◌, ◌^◌, ◌<◌, ◌≤◌, List, ◌++◌, length, take, drop, refl, arith, length-append, append_assoc, length-take-le}
use Rattle.std.proofs.lemmas.Bool.Decides.{nat_tests}
use Rattle.std.proofs.lemmas.List.{take_at}
use Rattle.std.specs.Int.{to_be_bytes, w16}
use borrow.Rule.Slice.PartMut.{put_mid, post_of}
use Rattle.records.specs.Writing.{word_bytes, laid}
use Rattle.wire.proofs.Writing.{behind}

-- three parts that have room are laid whole, and nothing is touched behind them
pub three_laid : (out head body tail x y z : List ℕ) (j k : ℕ) → x ≡ head → y ≡ body → z ≡ tail → j ≡ length body → k ≡ length tail
    → length head + length body + length tail ≤ length out
    → put_mid (length head + length body) k (put_mid (length head) j (x ++ drop (length head) out) y) z ≡ laid (head ++ (body ++ tail)) out
three_laid out head body tail x y z j k ex ey ez ej ek few =
    let one : put_mid (length head) j (head ++ drop (length head) out) body ≡ (head ++ body) ++ drop (length head + length body) out =
    behind out head body (length head) j (length head + length body) refl (omega (arith, ej)) in
    let two : put_mid (length head + length body) k ((head ++ body) ++ drop (length head + length body) out) tail
    ≡ ((head ++ body) ++ tail) ++ drop (length head + length body + length tail) out =
    behind out (head ++ body) tail (length head + length body) k (length head + length body + length tail) (length-append head body) (omega (arith, ek)) in
    let a = append_assoc head body tail in
    let l : length (head ++ (body ++ tail)) ≡ length head + length body + length tail = simp length-append (omega arith) in
    rw (ex, ey, ez, one, two, a) (grind (arith, nat_tests))

-- bytes that are laid from a place on stand behind what stood before it
pub laid_behind : (from k count : ℕ) (out laid part rest : List ℕ) → from ≤ length out → laid ≡ part ++ rest → count ≡ length part
    → take (from + count) (put_mid from k out laid) ≡ take from out ++ part
laid_behind from k count out laid part rest h e n =
    let l : length (take from out ++ part) ≡ from + count = simp length-append (omega (arith, length-take-le from out h, n)) in
    let s = append_assoc part rest (post_of from k out) in
    let t = append_assoc (take from out) part (rest ++ post_of from k out) in
    let a : put_mid from k out laid ≡ (take from out ++ part) ++ (rest ++ post_of from k out) = cc in
    rw a (take_at (take from out ++ part) (rest ++ post_of from k out) (from + count) l)

-- a word is written high byte first
pub word_kept : (w : ℕ) → w < 2 ^ 16 → to_be_bytes w16 w ≡ word_bytes w
word_kept w h = let e : w / 256 % 256 ≡ w / 256 = omega arith in cc
