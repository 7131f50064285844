-- Why a table gives the check word: a shift is linear, so a register may be shifted in parts.
use Rattle.std.proofs.Common.{◌≡◌, ℕ, zero, suc, ◌+◌, ◌*◌, ◌/◌, ◌%◌, ◌^◌, ◌<◌, Bool, true, ◌==◌, ◌&&◌, List, [], ◌∷◌, length, get_or, fold, sym, refl, ap, ◌∙◌, add-zero, arith}
use lib.Bits.{bit_xor, xor_block, xor_assoc, xor_comm, xor_shifted, xor_shr, xor_mod, xor_lt, xor_zero_r}
use Rattle.std.proofs.lemmas.Nat.{pow_pos}
use Rattle.std.proofs.lemmas.Bool.Decides.{nat_tests}
use Rattle.std.proofs.lemmas.Bool.{eqb-true, and_parts}
use Rattle.std.specs.List.{AllByRecursion}
use Rattle.wire.specs.CheckWord.{shifted, shifts, fed, check_word, Example}

pub shifted-low : (w : ℕ) → w < 32768 → shifted w ≡ w * 2
unfolding shifted
shifted-low w h = grind (arith, nat_tests)

shifted-is : (w : ℕ) → w < 65536 → shifted w ≡ bit_xor (w * 2 % 65536) (w / 32768 * 4129)
unfolding shifted
shifted-is w h = grind (arith, nat_tests, xor_zero_r)

pub shifted-lt : (w : ℕ) → w < 65536 → shifted w < 65536
unfolding shifted
shifted-lt w h =
    let x = xor_lt 16 (w * 2 % 65536) 4129 (omega arith) (omega arith) in
    grind (arith, nat_tests)

xor-times : (k a b : ℕ) → bit_xor (a * 2 ^ k) (b * 2 ^ k) ≡ bit_xor a b * 2 ^ k
xor-times k a b = simp add-zero at (xor_block k a b 0 0 (pow_pos k) (pow_pos k))

carry : (p q : ℕ) → p < 2 → q < 2 → bit_xor p q * 4129 ≡ bit_xor (p * 4129) (q * 4129)
carry zero zero h k = refl
carry zero (suc zero) h k = refl
carry (suc zero) zero h k = refl
carry (suc zero) (suc zero) h k = refl
carry zero (suc (suc q)) h k = absurd (omega arith)
carry (suc zero) (suc (suc q)) h k = absurd (omega arith)
carry (suc (suc p)) q h k = absurd (omega arith)

four : (a b p q : ℕ) → bit_xor (bit_xor a b) (bit_xor p q) ≡ bit_xor (bit_xor a p) (bit_xor b q)
four a b p q = cc (xor_assoc a b (bit_xor p q), xor_assoc b p q, xor_comm b p, xor_assoc p b q, xor_assoc a p (bit_xor b q))

pub lin : (a b : ℕ) → a < 65536 → b < 65536 → shifted (bit_xor a b) ≡ bit_xor (shifted a) (shifted b)
lin a b ha hb =
    let s = shifted-is (bit_xor a b) (xor_lt 16 a b ha hb) in
    let sa = shifted-is a ha in
    let sb = shifted-is b hb in
    let m : bit_xor a b * 2 % 65536 ≡ bit_xor (a * 2 % 65536) (b * 2 % 65536) = ap (λ x. x % 65536) (sym (xor-times 1 a b)) ∙ xor_mod (a * 2) (b * 2) 16 in
    let q : bit_xor a b / 32768 ≡ bit_xor (a / 32768) (b / 32768) = xor_shr a b 15 in
    let r = carry (a / 32768) (b / 32768) (omega arith) (omega arith) in
    let f = four (a * 2 % 65536) (b * 2 % 65536) (a / 32768 * 4129) (b / 32768 * 4129) in
    cc

shifts-lt : (k w : ℕ) → w < 65536 → shifts k w < 65536
shifts-lt zero w h = h
shifts-lt (suc k) w h = shifted-lt (shifts k w) (shifts-lt k w h)

lin-shifts : (k a b : ℕ) → a < 65536 → b < 65536 → shifts k (bit_xor a b) ≡ bit_xor (shifts k a) (shifts k b)
lin-shifts zero a b ha hb = refl
lin-shifts (suc k) a b ha hb = ap shifted (lin-shifts k a b ha hb) ∙ lin (shifts k a) (shifts k b) (shifts-lt k a ha) (shifts-lt k b hb)

low : (l : ℕ) → l < 256 → shifts 8 l ≡ l * 256
low l h = grind (arith, shifted-low)

pub by-table : (w b t : ℕ) → w < 65536 → b < 256 → t ≡ shifts 8 (bit_xor (w / 256) b * 256) → bit_xor (w * 256 % 65536) t ≡ fed w b
unfolding fed
by-table w b t hw hb e =
    let split : w / 256 * 256 + w % 256 ≡ w = omega arith in
    let x1 : bit_xor (w / 256 * 256) (w % 256) ≡ w / 256 * 256 + w % 256 = xor_shifted (w / 256) 8 (w % 256) (omega arith) in
    let x2 : bit_xor (w / 256 * 256) (b * 256) ≡ bit_xor (w / 256) b * 256 = xor-times 8 (w / 256) b in
    let x3 = xor_assoc (w / 256 * 256) (w % 256) (b * 256) in
    let x4 = xor_comm (w % 256) (b * 256) in
    let x5 = xor_assoc (w / 256 * 256) (b * 256) (w % 256) in
    let x6 : bit_xor w (b * 256) ≡ bit_xor (bit_xor (w / 256) b * 256) (w % 256) = cc in
    let hi : bit_xor (w / 256) b < 256 = xor_lt 8 (w / 256) b (omega arith) hb in
    let y = lin-shifts 8 (bit_xor (w / 256) b * 256) (w % 256) (omega arith) (omega arith) in
    let z = low (w % 256) (omega arith) in
    let u : w * 256 % 65536 ≡ w % 256 * 256 = omega arith in
    let v = xor_comm (w % 256 * 256) (shifts 8 (bit_xor (w / 256) b * 256)) in
    let all : shifts 8 (bit_xor w (b * 256)) ≡ bit_xor (shifts 8 (bit_xor (w / 256) b * 256)) (shifts 8 (w % 256)) = ap (shifts 8) x6 ∙ y in
    let one : bit_xor (w * 256 % 65536) t ≡ bit_xor (shifts 8 (bit_xor (w / 256) b * 256)) (w % 256 * 256) = cc in
    one ∙ ap (bit_xor (shifts 8 (bit_xor (w / 256) b * 256))) (sym z) ∙ sym all

-- One test that computes, over a whole table, gives each of its entries: from the place i on, what eight shifts make of the place.
abbrev pub tabled : ℕ → List ℕ → Bool
tabled i [] = true
tabled i (x ∷ xs) = x == shifts 8 (i * 256) && tabled (suc i) xs

entry-from : (xs : List ℕ) (i : ℕ) → tabled i xs ≡ true → (k : ℕ) → k < length xs → get_or xs k 0 ≡ shifts 8 ((i + k) * 256)
entry-from [] i t k h = absurd (omega arith)
entry-from (x ∷ xs) i t zero h = eqb-true x (shifts 8 (i * 256)) (and_parts _ _ t).0 ∙ ap (λ j. shifts 8 (j * 256)) (sym (add-zero i))
entry-from (x ∷ xs) i t (suc k) h =
    entry-from xs (suc i) (and_parts _ _ t).1 k (omega arith) ∙ ap (λ j. shifts 8 (j * 256)) (omega arith)

pub entry : (xs : List ℕ) → tabled 0 xs ≡ true → (i : ℕ) → i < length xs → get_or xs i 0 ≡ shifts 8 (i * 256)
entry xs t i h = entry-from xs 0 t i h ∙ ap (λ j. shifts 8 (j * 256)) (omega arith)

fed-small : (w b : ℕ) → w < 65536 → b < 256 → fed w b < 65536
unfolding fed
fed-small w b h k = shifts-lt 8 (bit_xor w (b * 256)) (xor_lt 16 w (b * 256) h (omega arith))

folded-small : (bs : List ℕ) (w : ℕ) → w < 65536 → AllByRecursion (λ b. b < 256) bs → fold fed w bs < 65536
folded-small [] w h a = h
folded-small (b ∷ bs) w h a = folded-small bs (fed w b) (fed-small w b h a.0) a.1

-- a check word is a word
pub word_small : (bs : List ℕ) → AllByRecursion (λ b. b < 256) bs → check_word bs < 65536
unfolding check_word
word_small bs a = folded-small bs 0 (omega arith) a

-- the published example
pub example : Example
unfolding shifted fed check_word
example = refl
