-- The enabled plans, rising: from one to the next, and how many there are.
use Rattle.std.proofs.Common.{◌≡◌, ℕ, zero, suc, ◌+◌, ◌-◌, ◌<◌, ◌≤◌, true, false, List, [], ◌∷◌, length, Some, None, Option, sym, refl, ap, ◌∙◌, ⊎_elim, arith}
use Rattle.std.proofs.lemmas.Bool.{cond-true, cond-false}
use Rattle.std.proofs.lemmas.Bool.Decides.{nat_tests, eqb_tells}
use Rattle.groups.specs.Plans.{includes, enabled_after, rising, Follows}

module _ (xs : List (Option ℕ)) where
  -- nothing follows
  pub none_after : (n k : ℕ) → ((m : ℕ) → n < m → includes xs m ≡ false) → enabled_after xs n k ≡ []
  unfolding enabled_after
  none_after n zero f = refl
  none_after n (suc k) f =
      let e = f (n + 1) (omega arith) in
      let i = none_after (n + 1) k (λ m h. f m (omega arith)) in
      grind (arith, nat_tests)

  -- the plan p follows
  pub next-after : (n k p j : ℕ) → n + k ≡ p + j → n < p → includes xs p ≡ true → ((m : ℕ) → n < m → m < p → includes xs m ≡ false)
      → enabled_after xs n k ≡ p ∷ enabled_after xs p j
  unfolding enabled_after
  next-after n zero p j e h t f = absurd (omega arith)
  next-after n (suc k) p j e h t f = ⊎_elim
      (λ q.
      let here : p ≡ n + 1 = q.1 in
      let left : j ≡ k = omega arith in
      cc (cond-true (includes xs (n + 1)) ((n + 1) ∷ enabled_after xs (n + 1) k) (enabled_after xs (n + 1) k) (sym (ap (includes xs) here) ∙ t)))
      (λ q.
      let more : n + 1 < p = let apart = q.1 in omega arith in
      cond-false (includes xs (n + 1)) ((n + 1) ∷ enabled_after xs (n + 1) k) (enabled_after xs (n + 1) k) (f (n + 1) (omega arith) more)
      ∙ next-after (n + 1) k p j (omega arith) more t (λ m l. f m (omega arith)))
      (eqb_tells p (n + 1))

-- a slot that is passed adds none
passed : (m : ℕ) (xs : List (Option ℕ)) (n k : ℕ) → m ≤ n → length (enabled_after (Some m ∷ xs) n k) ≡ length (enabled_after xs n k)
unfolding enabled_after
passed m xs n zero h = refl
passed m xs n (suc k) h = let i = passed m xs (n + 1) k (omega arith) in grind (arith, nat_tests)

-- a slot adds one at most
one_more : (m : ℕ) (xs : List (Option ℕ)) (n k : ℕ) → length (enabled_after (Some m ∷ xs) n k) ≤ length (enabled_after xs n k) + 1
unfolding enabled_after
one_more m xs n zero = omega arith
one_more m xs n (suc k) = ⊎_elim
    (λ q. let e : m ≡ n + 1 = q.1 in let i = passed m xs (n + 1) k (omega arith) in grind (arith, nat_tests))
    (λ q. let e = q.1 in let i = one_more m xs (n + 1) k in grind (arith, nat_tests))
    (eqb_tells m (n + 1))

-- a free slot adds none
free : (xs : List (Option ℕ)) (n k : ℕ) → length (enabled_after (None ∷ xs) n k) ≡ length (enabled_after xs n k)
unfolding enabled_after
free xs n zero = refl
free xs n (suc k) = let i = free xs (n + 1) k in grind (arith, nat_tests)

-- no more than there are slots
few : (xs : List (Option ℕ)) (n k : ℕ) → length (enabled_after xs n k) ≤ length xs
unfolding enabled_after
few [] n zero = omega arith
few [] n (suc k) = few [] (n + 1) k
few (None ∷ xs) n k = let i = free xs n k in let j = few xs n k in omega arith
few (Some m ∷ xs) n k = let i = one_more m xs n k in let j = few xs n k in omega arith

-- from one enabled plan to the next, up to 255
pub rising-next : (xs : List (Option ℕ)) (n p : ℕ) → p ≤ 255 → Follows xs n (Some p) → enabled_after xs n (255 - n) ≡ p ∷ enabled_after xs p (255 - p)
rising-next xs n p h f = let up = f.0 in next-after xs n (255 - n) p (255 - p) (omega arith) up f.1 f.2

pub rising-few : (xs : List (Option ℕ)) → length (rising xs) ≤ length xs
unfolding rising
rising-few xs = few xs 0 255
