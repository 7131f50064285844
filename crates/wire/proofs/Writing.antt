-- How a packet comes about, and its length.
use Rattle.std.proofs.Common.{◌≡◌, ℕ, ◌+◌, ◌*◌, ◌/◌, ◌%◌, ◌<◌, List, [], ◌∷◌, ◌++◌, length, get_or, take, drop, refl, ap, ◌∙◌, arith}
use Rattle.std.proofs.lemmas.List.{append_assoc, length-append, take_at, drop_at, drop-drop, take_more}
use borrow.Rule.Slice.PartMut.{put_mid}
use Rattle.wire.specs.Digits.{in_digits, bytes_of, digit_of}
use Rattle.wire.specs.CheckWord.{check_word}
use Rattle.wire.specs.Packet.{body, encode}

pub length-in_digits : (m : List ℕ) → length (in_digits m) ≡ 2 * length m
length-in_digits [] = refl
length-in_digits (b ∷ m) = omega (arith, length-in_digits m)

pub in_digits-append : (l m : List ℕ) → in_digits (l ++ m) ≡ in_digits l ++ in_digits m
in_digits-append [] m = refl
in_digits-append (b ∷ l) m = ap (λ t. digit_of (b / 16) ∷ digit_of (b % 16) ∷ t) (in_digits-append l m)

-- the digits of one byte more
pub in_digits-more : (bs : List ℕ) (i : ℕ) → i < length bs → in_digits (take (i + 1) bs) ≡ in_digits (take i bs) ++ (digit_of (get_or bs i 0 / 16) ∷ digit_of (get_or bs i 0 % 16) ∷ [])
in_digits-more bs i h = ap in_digits (take_more bs i 0 h) ∙ in_digits-append (take i bs) (get_or bs i 0 ∷ [])

pub length-body : (n a : ℕ) (m : List ℕ) → length (body n a m) ≡ 6 + 2 * length m
unfolding body
length-body n a m = omega (arith, length-in_digits m)

pub length-encode : (n a : ℕ) (m : List ℕ) → length (encode n a m) ≡ 6 + 2 * length m + 5
unfolding encode
length-encode n a m = simp length-append (omega (arith, length-body n a m))

-- a part that is written right behind what was written before it
pub behind : (out written part : List ℕ) (at k e : ℕ) → length written ≡ at → at + k ≡ e → put_mid at k (written ++ drop at out) part ≡ (written ++ part) ++ drop e out
behind out written part at k e l h = simp (take_at, drop_at, drop-drop, l, h, append_assoc)

-- a packet in three parts: six bytes, the digits of its message, and five bytes
pub filled : (out m head digits end : List ℕ) (n a k j : ℕ) → head ≡ 1 ∷ (in_digits (n ∷ a ∷ []) ++ 2 ∷ []) → digits ≡ in_digits m
    → end ≡ in_digits (bytes_of (check_word (take (6 + 2 * length m) (put_mid 6 k (head ++ drop 6 out) digits)))) ++ 3 ∷ []
    → k ≡ 2 * length m → j ≡ 5 → put_mid (6 + 2 * length m) j (put_mid 6 k (head ++ drop 6 out) digits) end ≡ encode n a m ++ drop (6 + 2 * length m + 5) out
unfolding encode body
filled out m head digits end n a k j eh ed ee ek ej =
    let b : head ++ digits ≡ body n a m = cc in
    let one : put_mid 6 k (head ++ drop 6 out) digits ≡ body n a m ++ drop (6 + 2 * length m) out =
    behind out head digits 6 k (6 + 2 * length m) (ap length eh) (omega arith) ∙ ap (λ x. x ++ drop (6 + 2 * length m) out) b in
    let w = ap (take (6 + 2 * length m)) one ∙ take_at (body n a m) (drop (6 + 2 * length m) out) (6 + 2 * length m) (length-body n a m) in
    let t = ee ∙ ap (λ x. in_digits (bytes_of (check_word x)) ++ 3 ∷ []) w in
    ap (λ x. put_mid (6 + 2 * length m) j x end) one ∙ behind out (body n a m) end (6 + 2 * length m) j (6 + 2 * length m + 5) (length-body n a m) (omega arith)
    ∙ ap (λ x. (body n a m ++ x) ++ drop (6 + 2 * length m + 5) out) t
