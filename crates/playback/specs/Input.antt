-- Recorded input: 42h and a line byte, 54h and a tick byte, 53h, a sign and its error code; anything else, or a cut, ends it.
use Rattle.std.specs.Prelude.{ℕ, cond, List, [], ◌∷◌, Some, None, Option, ◌==◌}
use Rattle.controller.specs.declared.call.Call.{Call}
use Rattle.controller.specs.declared.call.Call.TheVariants.{Line, Tick, Report}

-- the first call and the number of its bytes
abbrev pub first_call : List ℕ → Option (Call × ℕ)
first_call [] = None
first_call (x ∷ []) = None
first_call (x ∷ (y ∷ [])) = cond (x == 0x42) (Some (Line y, 2)) (cond (x == 0x54) (Some (Tick y, 2)) None)
first_call (x ∷ (y ∷ (z ∷ rest))) = cond (x == 0x42) (Some (Line y, 2)) (cond (x == 0x54) (Some (Tick y, 2)) (cond (x == 0x53) (Some (Report y z, 3)) None))

abbrev pub calls_of : List ℕ → List Call
calls_of [] = []
calls_of (x ∷ []) = []
calls_of (x ∷ (y ∷ [])) = cond (x == 0x42) (Line y ∷ []) (cond (x == 0x54) (Tick y ∷ []) [])
calls_of (x ∷ (y ∷ (z ∷ rest))) =
    cond (x == 0x42) (Line y ∷ calls_of (z ∷ rest))
    (cond (x == 0x54) (Tick y ∷ calls_of (z ∷ rest))
    (cond (x == 0x53) (Report y z ∷ calls_of rest) []))
