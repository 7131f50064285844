-- Messages: the frame that is due at an age, and the command that a message came by.
use Rattle.std.specs.Prelude.{◌≡◌, ℕ, ◌-◌, ◌%◌, cond, List, [], ◌∷◌, Some, None, Option, ◌==◌, nat_lt, sum_by}
use Rattle.std.specs.List.{flat_map}
use Rattle.commands.specs.declared.lists.Span.{Span}
use Rattle.records.specs.declared.message.Message.{Message}
use Rattle.records.specs.Writing.{command_of}

abbrev pub total_of : List Span → ℕ
total_of spans = sum_by (λ s. s.seconds) spans

-- the frame whose span holds a second, counted from the first span's start
abbrev pub held_at : List Span → ℕ → Option ℕ
held_at [] second = None
held_at (s ∷ ss) second = cond (nat_lt second s.seconds) (Some s.frame) (held_at ss (second - s.seconds))

-- the frame whose span holds the age modulo the sum of the seconds
unfoldable pub frame_at : List Span → ℕ → Option ℕ
frame_at spans age = cond (total_of spans == 0) None (held_at spans (age % total_of spans))

abbrev pub span : ℕ → ℕ → Span
span frame seconds = record { frame = frame; seconds = seconds }

-- frame 1 for 5 seconds, then frame 2 for 3
abbrev pub two_frames : List Span
two_frames = span 1 5 ∷ span 2 3 ∷ span 0 0 ∷ span 0 0 ∷ span 0 0 ∷ span 0 0 ∷ []

abbrev pub Example : Type 0
Example = (frame_at two_frames 4 ≡ Some 1) × (frame_at two_frames 5 ≡ Some 2)
    × (frame_at two_frames 7 ≡ Some 2) × (frame_at two_frames 8 ≡ Some 1)

-- the two bytes of a pair
abbrev pub pair_of : Span → List ℕ
pair_of s = s.frame ∷ s.seconds % 256 ∷ []

unfoldable pub message_bytes : Message → List ℕ
message_bytes m = command_of (0x0C ∷ m.header.number ∷ m.header.revision ∷ []) (flat_map pair_of m.spans) m.header.check
