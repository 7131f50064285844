-- A list in a reply. Assumes nothing.
use Rattle.std.specs.Prelude.{ℕ, List, ◌∷◌, length}
use Rattle.std.specs.List.{flat_map}

-- how many entries, and then the bytes of each
unfoldable pub list_bytes : {X : Type 0} → (X → List ℕ) → List X → List ℕ
list_bytes bytes_of xs = length xs ∷ flat_map bytes_of xs
