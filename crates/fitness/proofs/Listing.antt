-- A list is right if all parts are blank once those that are filled are passed over.
use Rattle.std.proofs.Common.{◌≡◌, ℕ, suc, ◌+◌, Bool, true, false, cond, List, [], ◌∷◌, drop, refl, arith}
use Rattle.std.specs.List.{list_all, prefix_len}
use Rattle.fitness.specs.Fitness.{listed_from}

module _ {E : Type 0} (fills blanks : E → Bool) where
  one_more : (b : Bool) (k : ℕ) (x : E) (xs : List E) (l : Bool) → list_all blanks (drop k xs) ≡ l
      → list_all blanks (drop (cond b (1 + k) 0) (x ∷ xs)) ≡ cond b l (list_all blanks (x ∷ xs))
  one_more true k x xs l e = let s : 1 + k ≡ suc k = omega arith in rw (s, e)
  one_more false k x xs l e = refl

  pub blank_after_filled : (xs : List E) → list_all blanks (drop (prefix_len fills xs) xs) ≡ listed_from fills blanks xs
  blank_after_filled [] = refl
  blank_after_filled (x ∷ xs) = one_more (fills x) (prefix_len fills xs) x xs (listed_from fills blanks xs) (blank_after_filled xs)
