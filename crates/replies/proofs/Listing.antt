-- A list in a reply, entry by entry, and how long it is. Assumes nothing.
use Rattle.std.proofs.Common.{◌≡◌, ℕ, ◌+◌, ◌*◌, ◌<◌, ◌≤◌, List, ◌∷◌, ◌++◌, length, get_or, take, refl, ap, arith, mul-le-mul_right}
use Rattle.std.specs.List.{flat_map}
use Rattle.std.proofs.lemmas.List.{length-append, length-take, flat_map_more, take_all, take_more}
use Rattle.std.proofs.lemmas.List.Concat.{length-flat_map}
use Rattle.std.proofs.lemmas.List.Sums.{sum_by-le}
use Rattle.replies.specs.List.{list_bytes}
use Rattle.replies.proofs.Filling.{cut_early}

module _ {X : Type 0} (f : X → List ℕ) where
  -- one entry more
  pub entry_more : (n : ℕ) (was : List ℕ) (xs : List X) (i : ℕ) (x : X) (s t : List ℕ) → i < length xs → x ≡ get_or xs i x
      → s ≡ take n (was ++ flat_map f (take i xs)) → t ≡ take n (s ++ f x) → t ≡ take n (was ++ flat_map f (take (i + 1) xs))
  entry_more n was xs i x s t room here so_far more =
      rw (more, so_far, cut_early, flat_map_more f was (take i xs) x) (ap (λ ys. take n (was ++ flat_map f ys)) (rw (take_more xs i x room, ← here) refl))

  -- a list of at most m entries, of at most k bytes each, is whole where there is room for so many
  pub whole_list : (n k m : ℕ) (head : List ℕ) (xs : List X) → ((x : X) → length (f x) ≤ k) → length head + 1 + m * k ≤ n
      → take n (head ++ list_bytes f (take m xs)) ≡ head ++ list_bytes f (take m xs)
  unfolding list_bytes
  whole_list n k m head xs small room =
      let ys = take m xs in
      let few : length ys ≤ m = omega (arith, length-take m xs) in
      let entries = sum_by-le (λ x. length (f x)) k ys (λ _ _ _. small _) in
      take_all n _ (omega (arith, length-append head (length ys ∷ flat_map f ys), length-flat_map f ys, mul-le-mul_right k few))
