-- The face that a sign's face memory makes.
use Rattle.std.specs.Prelude.{ℕ, List, Some, None, Option}
use Rattle.rack.specs.declared.look.Look.{Look}
use Rattle.rack.specs.Face.{Face, dark, lit}

-- lit with a look, where there is one, and the picture p
abbrev pub face_with : Option Look → List ℕ → Face
face_with None p = dark
face_with (Some l) p = lit l p
