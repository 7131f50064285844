-- How many bytes a stretch can hold.
use Rattle.std.specs.Prelude.{ℕ, min}

-- as many as it is made for, and never more than 65,535
abbrev pub room : ℕ → ℕ
room most = min most 65535
