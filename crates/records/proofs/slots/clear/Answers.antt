use Rattle.std.proofs.Common.{◌≡◌, ◌∷◌, List, [], length, replicate, None, Option, refl, rules}
use Rattle.std.specs.List.{FoldsTo}
use Rattle.records.proofs.slots.clear.Goals as goal

-- what steps that give one value alone have given
same : {F X : Type 0} (step : F → X → F → Type 0) (v : X) (f last : F) (xs : List X) → FoldsTo step f xs last
    → ((p q : F) (x : X) → step p x q → x ≡ v) → xs ≡ replicate (length xs) v
same step v f last [] h k = refl
same step v f last (x ∷ xs) h k = let e = k f h.0 x h.1 in let i = same step v h.0 last xs h.2 k in cc

pub returns : goal.returns
returns g c =
    let r = c.fill_with.ensures.ran in
    let e = same {X = Option _} _ None _ r.0 c.fill_with.new.self r.1 (λ p q x k. search rules) in
    let l = c.fill_with.ensures.len in cc
