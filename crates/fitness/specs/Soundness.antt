-- The check word of a storing command: the last word, over all earlier bytes.
use Rattle.std.specs.Prelude.{ℕ, ◌-◌, Bool, true, cond, ◌&&◌, List, length, take, ◌==◌, nat_le, slice_index}
use Rattle.wire.specs.CheckWord.{check_word}
use Rattle.commands.specs.Sent.{word_at}

-- the storing commands, 0Ah to 0Dh, with room for a check word
abbrev pub storing : List ℕ → Bool
storing m = nat_le 0x0A (slice_index m 0) && nat_le (slice_index m 0) 0x0D && nat_le 3 (length m)

abbrev pub right_word : List ℕ → Bool
right_word m = cond (storing m) (check_word (take (length m - 2) m) == word_at m (length m - 2)) true
