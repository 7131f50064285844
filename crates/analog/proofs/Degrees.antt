-- The byte of a temperature is within half a degree. Assumes nothing.
use Rattle.std.proofs.Common.{◌≡◌, ℕ, suc, ◌+◌, ◌-◌, ◌*◌, ◌<◌, ◌≤◌, Bool, true, false, cond, ◌&&◌, ◌||◌, T, eqb, ltb, leb, ℤ, negsuc, sym, refl, ap, ◌∙◌, inl, inr, mul-le-mul_right, mul_assoc, suc-mul, add-mul, lt_of_not-le, mul-one, arith}
use lib.Ieee.{Float, nan, inf, fin, up, down, le}
use lib.Ieee.Fits.{down_pos}
use lib.Ieee.Bits.{is_true}
use Rattle.std.proofs.lemmas.Float.{T_from_true}
use Rattle.std.proofs.lemmas.Bool.{cases_lt, cond-true, cond-false, lt-ltb, le-ltb, leb-true, le-leb, false≢true}
use Rattle.std.proofs.lemmas.Bool.Decides.{nat_tests}
use Rattle.analog.specs.Codes.{count, degree_mark, NearDegrees}
use Rattle.analog.proofs.Counts.{Rising, is-counted, is-reached}

-- k - 39/2 ≤ x, over whole numbers
abbrev Over : ℕ → Float → Type 0
Over k nan = ⊥
Over k (inf true) = ⊥
Over k (inf false) = Unit {0}
Over k (fin false m e) = 2 * (k * down e) ≤ 2 * (m * up e) + 39 * down e
Over k (fin true m e) = 2 * (k * down e) + 2 * (m * up e) ≤ 39 * down e

-- the four cases of the signs, as `le` has them
down-down : (a b : ℕ) → (ltb b a || (eqb a b && true)) ≡ leb b a
down-down a b = grind (arith, nat_tests)

up_up : (a b : ℕ) → (ltb a b || (eqb a b && true)) ≡ leb a b
up_up a b = grind (arith, nat_tests)

down-up : (a b : ℕ) → 0 < a → (ltb 0 (a + b) || (eqb a b && eqb a 0)) ≡ true
down-up a b h = grind (arith, nat_tests)

up-down : (a b : ℕ) → 0 < a → (eqb a b && eqb a 0) ≡ false
up-down a b h = grind (arith, nat_tests)

low-mark : (k d : ℕ) → k < 20 → (39 - 2 * k) * 1 * d + 2 * (k * d) ≡ 39 * d
low-mark k d h =
    let s : 39 - 2 * k + 2 * k ≡ 39 = omega arith in
    let a : (39 - 2 * k) * 1 * d ≡ (39 - 2 * k) * d = simp mul-one in
    let b = add-mul (39 - 2 * k) (2 * k) d in
    let c = mul_assoc 2 k d in
    let f = ap (λ (z : ℕ). z * d) s in
    omega arith

high-mark : (k d : ℕ) → 20 ≤ k → (2 * k - 39) * 1 * d + 39 * d ≡ 2 * (k * d)
high-mark k d h =
    let s : 2 * k - 39 + 39 ≡ 2 * k = omega arith in
    let a : (2 * k - 39) * 1 * d ≡ (2 * k - 39) * d = simp mul-one in
    let b = add-mul (2 * k - 39) 39 d in
    let c = mul_assoc 2 k d in
    let f = ap (λ (z : ℕ). z * d) s in
    omega arith

low-is : (k : ℕ) → k < 20 → degree_mark k ≡ fin true (39 - 2 * k) (negsuc 0)
low-is k h = cond-true (ltb k 20) (fin true (39 - 2 * k) (negsuc 0)) (fin false (2 * k - 39) (negsuc 0)) (lt-ltb k 20 h)

high_is : (k : ℕ) → 20 ≤ k → degree_mark k ≡ fin false (2 * k - 39) (negsuc 0)
high_is k h = cond-false (ltb k 20) (fin true (39 - 2 * k) (negsuc 0)) (fin false (2 * k - 39) (negsuc 0)) (le-ltb k 20 h)

Tells : ℕ → Float → Type 0
Tells k x = (le (degree_mark k) x ≡ true → Over k x) × (Over k x → le (degree_mark k) x ≡ true)

warm : (k m : ℕ) (e : ℤ) → Tells k (fin false m e)
unfolding Tells le
warm k m e =
    let d = down e in
    let D = down_pos e in
    elim (cases_lt k 20) [
      | inl h ↦
          let l = mul-le-mul_right {m = k} {n = 19} d (omega arith) in
          let a = low-mark k d h in
          let t = down-up ((39 - 2 * k) * 1 * d) (m * up e * 2) (omega arith) in
          let r : le (degree_mark k) (fin false m e) ≡ true = ap (λ (z : Float). le z (fin false m e)) (low-is k h) ∙ t in
          (λ _. omega arith, λ _. r)
      | inr h ↦
          let a = high-mark k d h in
          let r : le (degree_mark k) (fin false m e) ≡ leb ((2 * k - 39) * 1 * d) (m * up e * 2) = ap (λ (z : Float). le z (fin false m e)) (high_is k h) ∙ up_up ((2 * k - 39) * 1 * d) (m * up e * 2) in
          (λ t. let z = sym r ∙ t in omega (arith, leb-true ((2 * k - 39) * 1 * d) (m * up e * 2) z), λ o. r ∙ le-leb ((2 * k - 39) * 1 * d) (m * up e * 2) (omega arith))
    ]

cold : (k m : ℕ) (e : ℤ) → Tells k (fin true m e)
unfolding Tells le
cold k m e =
    let d = down e in
    let D = down_pos e in
    elim (cases_lt k 20) [
      | inl h ↦
          let a = low-mark k d h in
          let r : le (degree_mark k) (fin true m e) ≡ leb (m * up e * 2) ((39 - 2 * k) * 1 * d) = ap (λ (z : Float). le z (fin true m e)) (low-is k h) ∙ down-down ((39 - 2 * k) * 1 * d) (m * up e * 2) in
          (λ t. let z = sym r ∙ t in omega (arith, leb-true (m * up e * 2) ((39 - 2 * k) * 1 * d) z), λ o. r ∙ le-leb (m * up e * 2) ((39 - 2 * k) * 1 * d) (omega arith))
      | inr h ↦
          let l = mul-le-mul_right {m = 20} {n = k} d h in
          let a = high-mark k d h in
          let t = up-down ((2 * k - 39) * 1 * d) (m * up e * 2) (omega arith) in
          let r : le (degree_mark k) (fin true m e) ≡ false = ap (λ (z : Float). le z (fin true m e)) (high_is k h) ∙ t in
          (λ u. absurd (false≢true (sym r ∙ u)), λ o. absurd (omega arith))
    ]

-- a mark is finite
no_number : (b : Bool) (p q : ℕ) → le (cond b (fin true p (negsuc 0)) (fin false q (negsuc 0))) nan ≡ false
unfolding le
no_number true p q = refl
no_number false p q = refl

no-bottom : (b : Bool) (p q : ℕ) → le (cond b (fin true p (negsuc 0)) (fin false q (negsuc 0))) (inf true) ≡ false
unfolding le
no-bottom true p q = refl
no-bottom false p q = refl

top : (b : Bool) (p q : ℕ) → le (cond b (fin true p (negsuc 0)) (fin false q (negsuc 0))) (inf false) ≡ true
unfolding le
top true p q = refl
top false p q = refl

tells-over : (k : ℕ) (x : Float) → Tells k x
unfolding Tells
tells-over k nan = (λ t. absurd (false≢true (sym (no_number (ltb k 20) (39 - 2 * k) (2 * k - 39)) ∙ t)), λ o. absurd o)
tells-over k (inf true) = (λ t. absurd (false≢true (sym (no-bottom (ltb k 20) (39 - 2 * k) (2 * k - 39)) ∙ t)), λ o. absurd o)
tells-over k (inf false) = (λ t. tt, λ o. top (ltb k 20) (39 - 2 * k) (2 * k - 39))
tells-over k (fin false m e) = warm k m e
tells-over k (fin true m e) = cold k m e

over : (k : ℕ) (x : Float) → T (le (degree_mark k) x) → Over k x
unfolding Tells
over k x t = (tells-over k x).0 (is_true (le (degree_mark k) x) t)

not-over : (k : ℕ) (x : Float) → Over k x → T (le (degree_mark k) x)
unfolding Tells
not-over k x o = T_from_true (le (degree_mark k) x) ((tells-over k x).1 o)

-- what is over a mark is over a lower one
lower : (j k : ℕ) (x : Float) → j ≤ k → Over k x → Over j x
lower j k nan h o = o
lower j k (inf true) h o = o
lower j k (inf false) h o = o
lower j k (fin false m e) h o = let l = mul-le-mul_right (down e) h in omega arith
lower j k (fin true m e) h o = let l = mul-le-mul_right (down e) h in omega arith

rising : (x : Float) → Rising degree_mark x
rising x j k h t = not-over j x (lower j k x h (over k x t))

pub near-degrees : (c : ℕ) (v : Float) → c ≡ count degree_mark 100 v → 1 ≤ c → c ≤ 99 → NearDegrees (80 + c) v
near-degrees c v h l u =
    go v (over (c - 1) v (is-reached degree_mark v (rising v) 100 (c - 1) (omega arith)))
    (λ o. let z = is-counted degree_mark v (rising v) 100 c (omega arith) (not-over c v o) in omega arith)
  where
    go : (x : Float) → Over (c - 1) x → (Over c x → ⊥) → NearDegrees (80 + c) x
    go nan o n = o
    go (inf true) o n = o
    go (inf false) o n = n tt
    go (fin false m e) o n =
        let d = down e in
        let a = add-mul 80 c d in
        let s : suc (c - 1) ≡ c = omega arith in
        let b = sym (suc-mul (c - 1) d) ∙ ap (λ (z : ℕ). z * d) s in
        let g = lt_of_not-le n in
        (omega (arith, a, b), omega (arith, a, g))
    go (fin true m e) o n =
        let d = down e in
        let a = add-mul 80 c d in
        let s : suc (c - 1) ≡ c = omega arith in
        let b = sym (suc-mul (c - 1) d) ∙ ap (λ (z : ℕ). z * d) s in
        let g = lt_of_not-le n in
        (omega (arith, a, b), omega (arith, a, g))
