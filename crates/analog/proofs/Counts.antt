-- Laws of `count`. Assumes nothing.
use Rattle.std.proofs.Common.{◌≡◌, ℕ, zero, suc, ◌+◌, ◌<◌, ◌≤◌, Bool, true, false, cond, T, map, sym, refl, ap, ◌∙◌, inl, inr, le_refl, add-zero, add-one, arith}
use lib.Ieee.{Float, le}
use lib.Ieee.Bits.{is_true}
use Rattle.std.specs.List.{count_by, range_with_len}
use Rattle.std.proofs.lemmas.Float.{T_from_true}
use Rattle.std.proofs.lemmas.List.Sums.{count_by-le-length}
use Rattle.std.proofs.lemmas.List.FromFn.{length-map-range_with_len, sum_by-map-range_with_len_more}
use Rattle.std.proofs.lemmas.Bool.{cases_eq, cases_Bool, cond-true}
use Rattle.analog.specs.Codes.{count}

pub count_none : (m : ℕ → Float) (x : Float) → count m 0 x ≡ 0
unfolding count
count_none m x = refl

count-suc : (m : ℕ → Float) (n : ℕ) (x : Float) → count m (suc n) x ≡ count m n x + cond (le (m n) x) 1 0
unfolding count
count-suc m n x = ap (λ (k : ℕ). count m k x) (sym (add-one n)) ∙ sum_by-map-range_with_len_more (λ (y : Float). cond (le y x) 1 0) m 0 n n (omega arith)

pub count-more : (m : ℕ → Float) (n : ℕ) (x : Float) → count m (n + 1) x ≡ count m n x + cond (le (m n) x) 1 0
count-more m n x = rw add-one (count-suc m n x)

-- a mark that is reached counts, and one that is not does not
pub count-hit : (m : ℕ → Float) (n : ℕ) (x : Float) → le (m n) x ≡ true → count m (n + 1) x ≡ count m n x + 1
count-hit m n x t = count-more m n x ∙ ap (λ (b : Bool). count m n x + cond b 1 0) t

pub count-miss : (m : ℕ → Float) (n : ℕ) (x : Float) → le (m n) x ≡ false → count m (n + 1) x ≡ count m n x
count-miss m n x t = count-more m n x ∙ ap (λ (b : Bool). count m n x + cond b 1 0) t ∙ add-zero (count m n x)

pub count_same : (m m' : ℕ → Float) (n : ℕ) (x : Float) → map m (range_with_len 0 n) ≡ map m' (range_with_len 0 n) → count m n x ≡ count m' n x
unfolding count
count_same m m' n x e = ap (count_by (λ (y : Float). le y x)) e

pub count-le : (m : ℕ → Float) (n : ℕ) (x : Float) → count m n x ≤ n
unfolding count
count-le m n x = omega (arith, count_by-le-length (λ (y : Float). le y x) (map m (range_with_len 0 n)), length-map-range_with_len m 0 n)

-- ---- where the marks rise: one below a mark that is reached is reached
abbrev pub Rising : (ℕ → Float) → Float → Type 0
Rising m x = (j k : ℕ) → j ≤ k → T (le (m k) x) → T (le (m j) x)

pub count-all : (m : ℕ → Float) (n : ℕ) (x : Float) → ((k : ℕ) → k < n → T (le (m k) x)) → count m n x ≡ n
count-all m zero x h = count_none m x
count-all m (suc n) x h =
    let i = count-all m n x (λ k l. h k (omega arith)) in
    omega (arith, count-suc m n x, cond-true {A = ℕ} (le (m n) x) 1 0 (is_true (le (m n) x) (h n (le_refl (suc n)))))

pub is-counted : (m : ℕ → Float) (x : Float) → Rising m x → (n k : ℕ) → k < n → T (le (m k) x) → k < count m n x
is-counted m x r zero k h t = omega arith
is-counted m x r (suc n) k h t =
    elim (cases_eq k n) [
      | inl e ↦ let a = count-all m (suc n) x (λ j l. r j k (omega arith) t) in omega (arith, a)
      | inr d ↦ let i = is-counted m x r n k (omega arith) t in omega (arith, count-suc m n x)
    ]

pub is-reached : (m : ℕ → Float) (x : Float) → Rising m x → (n k : ℕ) → k < count m n x → T (le (m k) x)
is-reached m x r zero k h = absurd (omega (arith, count_none m x))
is-reached m x r (suc n) k h =
    elim (cases_Bool (le (m n) x)) [
      | inl e ↦ let z = count-le m (suc n) x in r k n (omega (arith, z)) (T_from_true (le (m n) x) e)
      | inr e ↦ let z = count-suc m n x ∙ ap (λ (b : Bool). count m n x + cond b 1 0) e in is-reached m x r n k (omega (arith, z))
    ]
