-- What enabling, disabling and listing mean for each plan.
use Rattle.std.proofs.Common.{◌≡◌, ℕ, ◌+◌, ◌<◌, ◌≤◌, min, ltb, cond, List, [], ◌∷◌, length, get_or, drop, Some, None, Option, sym, refl, ap, ◌∙◌, subst, arith}
use Rattle.std.proofs.lemmas.Bool.{cond_both, ltb-true, ltb-false}
use Rattle.std.proofs.lemmas.Bool.Decides.{nat_tests}
use Rattle.std.proofs.lemmas.List.{at_drop_more}
use Rattle.std.specs.List.{filter, flat_map, fold, reduce}
use Rattle.std.specs.Option.{option_to_list}
use Rattle.groups.specs.Plans.{put, without, next_above, Joins, Leaves, Follows}

pub put_joins : (xs : List (Option ℕ)) (n : ℕ) → Joins xs n (put xs n)
put_joins [] n m = grind (arith, nat_tests)
put_joins (None ∷ xs) n m = grind (arith, nat_tests)
put_joins (Some k ∷ xs) n m = let e = put_joins xs n m in grind (arith, nat_tests)

pub without_leaves : (xs : List (Option ℕ)) (n : ℕ) → Leaves xs n (without xs n)
without_leaves [] n m = grind (arith, nat_tests)
without_leaves (None ∷ xs) n m = without_leaves xs n m
without_leaves (Some k ∷ xs) n m = let e = without_leaves xs n m in grind (arith, nat_tests)

abbrev lesser : ℕ → Option ℕ → ℕ
lesser k None = k
lesser k (Some m) = min k m

-- the least of numbers, from the first on
fold_min : (k : ℕ) (ys : List ℕ) → fold min k ys ≡ lesser k (reduce min ys)
fold_min k [] = refl
fold_min k (y ∷ ys) = fold_min (min k y) ys ∙ both k y (reduce min ys) ∙ ap (min k) (sym (fold_min y ys))
  where
    both : (k y : ℕ) (o : Option ℕ) → lesser (min k y) o ≡ min k (lesser y o)
    both k y None = refl
    both k y (Some m) = omega arith

-- a plan that is not above n does not follow it
below : (k n : ℕ) (xs : List (Option ℕ)) (r : Option ℕ) → k ≤ n → Follows xs n r → Follows (Some k ∷ xs) n r
below k n xs None h f = λ m l. let e = f m l in grind (arith, nat_tests)
below k n xs (Some p) h f =
    let e = f.1 in let g = f.0 in
    (f.0, (grind (arith, nat_tests)), λ m l u. let e = f.2 m l u in grind (arith, nat_tests))

-- of a plan above n and what follows n, the lesser follows
nearer : (k n : ℕ) (xs : List (Option ℕ)) (r : Option ℕ) → n < k → Follows xs n r → Follows (Some k ∷ xs) n (Some (lesser k r))
nearer k n xs None h f = (h, (grind (arith, nat_tests)), λ m l u. let e = f m l in grind (arith, nat_tests))
nearer k n xs (Some p) h f =
    let e = f.1 in let g = f.0 in
    ((omega arith), (grind (arith, nat_tests)), λ m l u. let v : m < p = omega arith in let e = f.2 m l v in grind (arith, nat_tests))

pub next_follows : (xs : List (Option ℕ)) (n : ℕ) → Follows xs n (next_above xs n)
next_follows [] n = λ m l. refl
next_follows (None ∷ xs) n = next_follows xs n
next_follows (Some k ∷ xs) n =
    cond_both (ltb n k) (k ∷ filter (ltb n) (flat_map option_to_list xs)) (filter (ltb n) (flat_map option_to_list xs)) (λ (ys : List ℕ). Follows (Some k ∷ xs) n (reduce min ys))
    (λ t. subst (λ (m : ℕ). Follows (Some k ∷ xs) n (Some m)) (sym (fold_min k (filter (ltb n) (flat_map option_to_list xs)))) (nearer k n xs (next_above xs n) (ltb-true n k t) (next_follows xs n)))
    (λ t. below k n xs (next_above xs n) (ltb-false n k t) (next_follows xs n))

-- the lesser of two that may be there
abbrev pub nearest : Option ℕ → Option ℕ → Option ℕ
nearest None r = r
nearest (Some k) r = Some (lesser k r)

-- the least plan above n that was found, with a slot more
abbrev pub picked : Option ℕ → Option ℕ → ℕ → Option ℕ
picked least None n = least
picked least (Some k) n = cond (ltb n k) (Some (lesser k least)) least

pick : (least x : Option ℕ) (xs : List (Option ℕ)) (n : ℕ) → nearest least (next_above (x ∷ xs) n) ≡ nearest (picked least x n) (next_above xs n)
pick least None xs n = refl
pick None (Some k) xs n = let e = fold_min k (filter (ltb n) (flat_map option_to_list xs)) in grind (arith, nat_tests)
pick (Some m) (Some k) xs n = let e = fold_min k (filter (ltb n) (flat_map option_to_list xs)) in grind (arith, nat_tests)

-- what is found in the end is the same one slot further
pub pick_more : (least : Option ℕ) (xs : List (Option ℕ)) (i n : ℕ) → i < length xs
    → nearest least (next_above (drop i xs) n) ≡ nearest (picked least (get_or xs i None) n) (next_above (drop (i + 1) xs) n)
pick_more least xs i n h = at_drop_more (λ ys. nearest least (next_above ys n)) xs i None h ∙ pick least (get_or xs i None) (drop (i + 1) xs) n
