-- The reply that tells the readings. Assumes nothing.
use Rattle.std.specs.Prelude.{ℕ, List, [], ◌∷◌, ◌++◌}
use Rattle.analog.specs.Slots.{report_bytes}
use Rattle.analog.specs.declared.slots.Readings.{Readings}

-- three slots; state and code of mains, battery and temperature; two zeros
unfoldable pub readings_reply : Readings → List ℕ
readings_reply readings = 0xFA ∷ 3 ∷ (report_bytes readings ++ (0 ∷ 0 ∷ []))
