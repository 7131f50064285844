-- The replies to a message that is accepted, rejected or starts a session. Assumes nothing.
use Rattle.std.specs.Prelude.{ℕ, List, [], ◌∷◌}

abbrev pub acknowledgement_reply : ℕ → List ℕ
acknowledgement_reply code = 0x01 ∷ code ∷ []

abbrev pub rejection_reply : ℕ → ℕ → List ℕ
rejection_reply code number = 0x00 ∷ code ∷ number ∷ []

abbrev pub seed_reply : ℕ → List ℕ
seed_reply seed = 0x03 ∷ seed ∷ []
