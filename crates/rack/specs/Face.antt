-- What a sign shows, and what decides whether a sign takes a picture.
use Rattle.std.specs.Prelude.{◌≡◌, ℕ, Bool, ◌&&◌, List, [], Some, None, Option, ◌≢◌, nat_le}
use Rattle.rack.specs.declared.look.Look.{Look}
use Rattle.rack.specs.declared.look.Shape.{Shape}

-- A sign is dark, or lit with a look and a picture.
pub data Face : Type 0 where
  dark : Face
  lit : Look → List ℕ → Face

-- What taking depends on: kind, rows, columns and the picture's length.
abbrev pub shape_of : Look → ℕ → Shape
shape_of l n = record { kind = l.kind; rows = l.rows; columns = l.columns; length = n }

-- How a lit face looks, apart from its picture.
abbrev pub look_of : Face → Option Look
look_of dark = None
look_of (lit l p) = Some l

-- The picture of a face; a dark one has none.
abbrev pub picture_of : Face → List ℕ
picture_of dark = []
picture_of (lit l p) = p

-- Whether a rack of n signs has the sign s: signs are numbered from 1.
abbrev pub has : ℕ → ℕ → Bool
has n s = nat_le 1 s && nat_le s n

-- Every sign but s shows what it showed.
abbrev pub Elsewhere : (ℕ → Face) → (ℕ → Face) → ℕ → Type 0
Elsewhere before after s = (k : ℕ) → (k ≢ s) → after k ≡ before k

-- What each sign takes is as it was.
abbrev pub SameTaking : (ℕ → Shape → Bool) → (ℕ → Shape → Bool) → Type 0
SameTaking before after = (s : ℕ) (h : Shape) → after s h ≡ before s h
