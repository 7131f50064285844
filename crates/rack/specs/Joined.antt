-- A joined rack has one rack's signs, then another's; signs past 255 are lacking.
use Rattle.std.specs.Prelude.{ℕ, ◌+◌, ◌-◌, min, Bool, false, cond, nat_le}
use Rattle.rack.specs.declared.look.Shape.{Shape}
use Rattle.rack.specs.declared.joined.Side.{Side}
use Rattle.rack.specs.declared.joined.Side.TheVariants.{First, Second}
use Rattle.rack.specs.Face.{Face, dark}

abbrev pub joined_signs : ℕ → ℕ → ℕ
joined_signs m n = min (m + n) 255

-- The side of sign s, where the first rack has m signs, with its number there.
abbrev pub side_of : ℕ → ℕ → Side
side_of m s = cond (nat_le s m) (First s) (Second (s - m))

-- The sign s is the first rack's up to its number of signs m, and from there on the second's sign s - m.
module _ {X : Type 0} (lacking : X) where
  abbrev pub across : ℕ → (ℕ → X) → (ℕ → X) → ℕ → X
  across m first second s = cond (nat_le s m) (first s) (cond (nat_le s 255) (second (s - m)) lacking)

abbrev pub joined_takes : ℕ → (ℕ → Shape → Bool) → (ℕ → Shape → Bool) → ℕ → Shape → Bool
joined_takes m first second s h = across false m (λ k. first k h) (λ k. second k h) s

abbrev pub joined_face : ℕ → (ℕ → Face) → (ℕ → Face) → ℕ → Face
joined_face m first second s = across dark m first second s
