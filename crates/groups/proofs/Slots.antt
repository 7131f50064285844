-- The first free slot.
use Rattle.std.proofs.Common.{◌≡◌, ℕ, suc, ◌+◌, ◌≤◌, List, [], ◌∷◌, length, set, Some, None, Option, refl, ap, ◌∙◌, arith}
use Rattle.std.proofs.lemmas.Bool.Decides.{nat_tests}
use Rattle.std.specs.List.{position, position_or_len}
use Rattle.std.specs.Option.{is_none}
use Rattle.groups.specs.Plans.{put}

pub put_at : (xs : List (Option ℕ)) (n : ℕ) → set xs (position_or_len is_none xs) (Some n) ≡ put xs n
put_at [] n = refl
put_at (None ∷ xs) n = refl
put_at (Some m ∷ xs) n =
    let e : 1 + position_or_len is_none xs ≡ suc (position_or_len is_none xs) = omega arith in
    ap (λ (i : ℕ). set (Some m ∷ xs) i (Some n)) e ∙ ap (λ (ys : List (Option ℕ)). Some m ∷ ys) (put_at xs n)

put_nowhere : (xs : List (Option ℕ)) (n : ℕ) → length xs ≤ position_or_len is_none xs → xs ≡ put xs n
put_nowhere [] n h = refl
put_nowhere (None ∷ xs) n h = absurd (omega arith)
put_nowhere (Some m ∷ xs) n h = ap (λ (ys : List (Option ℕ)). Some m ∷ ys) (put_nowhere xs n (omega arith))

pub put_some : (xs : List (Option ℕ)) (n i : ℕ) → position is_none xs ≡ Some i → set xs i (Some n) ≡ put xs n
put_some xs n i h = let e = put_at xs n in grind (arith, nat_tests)

pub put_none : (xs : List (Option ℕ)) (n : ℕ) → position is_none xs ≡ None → xs ≡ put xs n
put_none xs n h = put_nowhere xs n (grind (arith, nat_tests))
