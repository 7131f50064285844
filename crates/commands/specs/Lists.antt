-- The parts of messages and plans.
use Rattle.std.specs.Prelude.{ℕ, ◌+◌, ◌*◌}
use Rattle.commands.specs.declared.lists.Time.{Time}

-- the minute of the day
abbrev pub minutes_of : Time → ℕ
minutes_of t = t.hour * 60 + t.minute
