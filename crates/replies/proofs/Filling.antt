-- A message that is cut where a reply ends. Assumes nothing.
use Rattle.std.proofs.Common.{◌≡◌, ℕ, zero, suc, List, [], ◌∷◌, ◌++◌, take, refl, ap}
use Rattle.octets.proofs.Alike.{alike as stretches_alike}
use Rattle.replies.specs.Reply.{contents, Alike}

-- a cut that is made early makes no difference
pub cut_early : {X : Type 0} (n : ℕ) (xs ys : List X) → take n (take n xs ++ ys) ≡ take n (xs ++ ys)
cut_early zero xs ys = refl
cut_early (suc n) [] ys = refl
cut_early (suc n) (x ∷ xs) ys = ap (λ zs. x ∷ zs) (cut_early n xs ys)

-- replies that hold the same message are equal
pub alike : Alike
unfolding contents
alike a b e = λ i. record { message = stretches_alike a.message b.message e i }
