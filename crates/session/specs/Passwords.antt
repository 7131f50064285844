-- The word that opens a session: the seed and its offset, modulo 256, times 257, and the password offset, modulo 65,536.
use Rattle.std.specs.Prelude.{◌≡◌, ℕ, ◌+◌, ◌*◌, ◌%◌}
use Rattle.session.specs.declared.Offsets.{Offsets}

abbrev pub right_word : ℕ → Offsets → ℕ
right_word seed offsets = (((seed + offsets.seed) % 256) * 257 + offsets.password) % 65536

-- Seed 10h with the offsets 05h and 0100h asks for 1615h.
abbrev pub Worked : Type 0
Worked = right_word 0x10 (record { seed = 0x05; password = 0x0100 }) ≡ 0x1615
