-- A date and a time of day in a reply. Assumes nothing.
use Rattle.std.specs.Prelude.{ℕ, List, [], ◌∷◌, ◌++◌}
use Rattle.calendar.specs.declared.date_time.DateTime.{DateTime}
use Rattle.replies.specs.Reply.{word}

abbrev pub date_time_bytes : DateTime → List ℕ
date_time_bytes t = t.day ∷ t.month ∷ (word t.year ++ (t.hour ∷ t.minute ∷ t.second ∷ []))
