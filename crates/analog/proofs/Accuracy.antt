-- The byte of a voltage is within 0.5001 of ten times the volts. Rounding keeps the order (`round_mono`), so it is enough to round two fractions
-- for each byte, (byte - 0.5001) and (byte + 0.5001), and to compare them with the marks: a test that antt computes. Assumes nothing.
use Rattle.std.proofs.Common.{◌≡◌, ℕ, suc, ◌+◌, ◌-◌, ◌*◌, ◌^◌, ◌<◌, ◌≤◌, Bool, true, false, cond, not, ◌&&◌, T, ltb, sym, refl, ap, ◌∙◌, subst, inl, inr, le_of_lt, mul_assoc, suc-mul, add-mul, mul-one, arith, lit<, lt→ltb, T_not}
use lib.Ieee.{Float, nan, inf, fin, up, down, mul, round, units, odd, le, binary32, prec, low, emax}
use lib.Ieee.Fits.{and_l, and_r, down_pos, round_is}
use lib.Ieee.Exact.{HasValue, odd_sign}
use lib.Ieee.Order.{round_mono, kept, drop}
use lib.Ieee.Positive.{positive, above, cross→le, above_of_le}
use Rattle.analog.specs.Codes.{count, volt_mark, tenfold, volts_code, NearVolts}
use Rattle.analog.proofs.Counts.{is-counted, is-reached}
use Rattle.std.proofs.lemmas.Bool.{cases_lt, false≢true, agree_below_at}
use Rattle.std.proofs.lemmas.Float.{T_from_true, le_trans}

-- ---- the order of the marks
pub mark-positive : (k : ℕ) → T (positive (volt_mark k))
mark-positive k = lt→ltb 0 (2 * k + 1) (omega arith)

pub infinite : (y : Float) → T (positive y) → T (le y (inf false))
unfolding le
infinite nan u = absurd u
infinite (inf s) u = absurd u
infinite (fin s m e) u = tt

-- a mark below one that is reached is reached
lower : (k n : ℕ) (x : Float) → k ≤ n → T (le (volt_mark n) x) → T (le (volt_mark k) x)
lower k n x h t = le_trans (volt_mark k) (volt_mark n) x (cross→le (volt_mark k) (volt_mark n) (mark-positive k) (mark-positive n) (omega arith)) t

-- ---- a mark that is reached is counted, and what is counted is reached
pub counted : (n : ℕ) (x : Float) (k : ℕ) → k < n → T (le (volt_mark k) x) → k < count volt_mark n x
counted n x k h t = is-counted volt_mark x (λ i j l u. lower i j x l u) n k h t

pub reached : (n : ℕ) (x : Float) (k : ℕ) → k < count volt_mark n x → T (le (volt_mark k) x)
reached n x k h = is-reached volt_mark x (λ i j l u. lower i j x l u) n k h

-- ---- a negative value reaches no mark
below-zero : (x : Float) (a c : ℕ) → HasValue x true a c → T (above x) → ⊥
below-zero nan a c h t = h
below-zero (inf s) a c h t = h
below-zero (fin true m e) a c h t = t
below-zero (fin false m e) a c h t = false≢true h.0

units-below : (q k : ℕ) → T (above (units binary32 true q k)) → ⊥
unfolding units
units-below q k = go (ltb (q * 2 ^ k) (2 ^ (low binary32 + suc (emax binary32))))
  where
    go : (b : Bool) → T (above (cond b (odd (suc (prec binary32)) true q k (low binary32)) (inf true))) → ⊥
    go true t = below-zero (odd (suc (prec binary32)) true q k (low binary32)) (q * 2 ^ k) (2 ^ low binary32) (odd_sign (suc (prec binary32)) true q k (low binary32)) t
    go false t = t

round-below : (n d k : ℕ) → T (le (volt_mark k) (round binary32 true n d)) → ⊥
round-below n d k t =
    let a = above_of_le (volt_mark k) (round binary32 true n d) (mark-positive k) t in
    units-below (kept (prec binary32) (n * 2 ^ low binary32) d) (drop (prec binary32) (n * 2 ^ low binary32) d) (subst (λ (z : Float). T (above z)) (round_is binary32 true n d) a)

-- ---- the fractions k + 1 - 0.5001 and k + 1 + 0.5001, rounded
low-edge : ℕ → Float
low-edge k = round binary32 false (10000 * k + 4999) 10000

high-edge : ℕ → Float
high-edge k = round binary32 false (10000 * k + 15001) 10000

edge_test : ℕ → Bool
unfolding low-edge high-edge
edge_test k = not (le (volt_mark k) (low-edge k)) && le (volt_mark (suc k)) (high-edge k)

edges : (k : ℕ) → k < 254 → T (edge_test k)
unfolding edge_test low-edge high-edge round le
edges k h = T_from_true (edge_test k) (agree_below_at edge_test (λ _. true) 254 k refl h)

not-under : (k n d : ℕ) → k < 254 → 0 < d → T (le (volt_mark k) (round binary32 false n d)) → (10000 * k + 4999) * d ≤ n * 10000
unfolding edge_test low-edge
not-under k n d h D t =
    elim (cases_lt (n * 10000) ((10000 * k + 4999) * d)) [
      | inr g ↦ g
      | inl g ↦
          let x = round binary32 false n d in
          let y = low-edge k in
          let no-reach = and_l (not (le (volt_mark k) y)) (le (volt_mark (suc k)) (high-edge k)) (edges k h) in
          let u = round_mono binary32 n d (10000 * k + 4999) 10000 D (lit< tt) (le_of_lt g) in
          absurd (T_not (le (volt_mark k) y) no-reach (le_trans (volt_mark k) x y t u))
    ]

not-over : (k n d : ℕ) → k < 254 → 0 < d → (T (le (volt_mark (suc k)) (round binary32 false n d)) → ⊥) → n * 10000 ≤ (10000 * k + 15001) * d
unfolding edge_test high-edge
not-over k n d h D t =
    elim (cases_lt ((10000 * k + 15001) * d) (n * 10000)) [
      | inr g ↦ g
      | inl g ↦
          let x = round binary32 false n d in
          let y = high-edge k in
          let r = and_r (not (le (volt_mark k) (low-edge k))) (le (volt_mark (suc k)) y) (edges k h) in
          let u = round_mono binary32 (10000 * k + 15001) 10000 n d (lit< tt) D (le_of_lt g) in
          absurd (t (le_trans (volt_mark (suc k)) y x r u))
    ]

-- ---- together
pub near : (b : ℕ) (v : Float) → b ≡ volts_code v → 1 ≤ b → b ≤ 254 → NearVolts b v
unfolding mul
near b nan h l u = absurd (none nan (b - 1) (reached 255 nan (b - 1) (omega arith)))
  where
    none : (y : Float) (k : ℕ) → T (le (volt_mark k) nan) → ⊥
    none y k t = above_of_le (volt_mark k) nan (mark-positive k) t
near b (inf true) h l u = above_of_le (volt_mark (b - 1)) (inf true) (mark-positive (b - 1)) (reached 255 (inf true) (b - 1) (omega arith))
near b (inf false) h l u = let z = counted 255 (inf false) b (omega arith) (infinite (volt_mark b) (mark-positive b)) in omega arith
near b (fin true m e) h l u = absurd (round-below (m * up e * 10) (down e * 1) (b - 1) (reached 255 (tenfold (fin true m e)) (b - 1) (omega arith)))
near b (fin false m e) h l u =
    let n = m * up e * 10 in
    let d = down e * 1 in
    let k = b - 1 in
    let D : 0 < d = subst (λ (z : ℕ). 0 < z) (sym (mul-one (down e))) (down_pos e) in
    let lo = not-under k n d (omega arith) D (reached 255 (tenfold (fin false m e)) k (omega arith)) in
    let s : suc k ≡ b = omega arith in
    let hi = not-over k n d (omega arith) D (λ t. let z = counted 255 (tenfold (fin false m e)) (suc k) (omega arith) t in omega (arith, z)) in
    let e1 : (10000 * k + 4999) * d ≡ 10000 * (k * down e) + 4999 * down e = ap (λ (z : ℕ). (10000 * k + 4999) * z) (mul-one (down e)) ∙ add-mul (10000 * k) 4999 (down e) ∙ ap (λ (z : ℕ). z + 4999 * down e) (mul_assoc 10000 k (down e)) in
    let e2 : (10000 * k + 15001) * d ≡ 10000 * (k * down e) + 15001 * down e = ap (λ (z : ℕ). (10000 * k + 15001) * z) (mul-one (down e)) ∙ add-mul (10000 * k) 15001 (down e) ∙ ap (λ (z : ℕ). z + 15001 * down e) (mul_assoc 10000 k (down e)) in
    let e3 : b * down e ≡ k * down e + down e = ap (λ (z : ℕ). z * down e) (sym s) ∙ suc-mul k (down e) in
    (refl, omega (arith, lo, e1, e3), omega (arith, hi, e2, e3))
