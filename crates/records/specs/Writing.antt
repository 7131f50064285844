-- How a command is written into lent memory: from its start, if there is room, and nothing else is touched.
use Rattle.std.specs.Prelude.{ℕ, ◌/◌, ◌%◌, cond, List, [], ◌∷◌, ◌++◌, length, drop, Some, None, Option, nat_le}

-- a word as two bytes, high byte first
abbrev pub word_bytes : ℕ → List ℕ
word_bytes w = w / 256 ∷ w % 256 ∷ []

abbrev pub command_of : List ℕ → List ℕ → ℕ → List ℕ
command_of head body check = head ++ (body ++ word_bytes check)

-- how many bytes are written, or none where there is no room for them
abbrev pub room_for : List ℕ → List ℕ → Option ℕ
room_for bytes out = cond (nat_le (length bytes) (length out)) (Some (length bytes)) None

abbrev pub laid : List ℕ → List ℕ → List ℕ
laid bytes out = cond (nat_le (length bytes) (length out)) (bytes ++ drop (length bytes) out) out
