-- The fault log: what a change of a sign's error code puts into it.
use Rattle.std.specs.Prelude.{ℕ, ◌+◌, ◌%◌, cond, List, ◌==◌}
use Rattle.calendar.specs.declared.date_time.DateTime.{DateTime}
use Rattle.journal.specs.Logs.{empty, grown, written}
use Rattle.replies.specs.declared.logs.FaultEntry.{FaultEntry}
use Rattle.replies.specs.declared.logs.FaultEvent.{FaultEvent}
use Rattle.replies.specs.declared.logs.FaultEvent.TheVariants.{Onset, Clearance}
use Rattle.controller.specs.declared.faults.FaultLog.{FaultLog}

abbrev pub no_faults : FaultLog
no_faults = record { journal = empty; next_entry = 0 }

-- One entry more, under the next number; after 255 comes 0.
abbrev pub counted : FaultLog → FaultLog
counted l = record { journal = grown l.journal; next_entry = (l.next_entry + 1) % 256 }

abbrev pub entered : ℕ → DateTime → ℕ → FaultEvent → FaultLog → List FaultEntry → List FaultEntry
entered sign at code event l m = written l.journal (record { sign = sign; entry = l.next_entry; at = at; code = code; event = event }) m

-- Only a code that is not 0 has an entry.
abbrev pub counted_if : ℕ → FaultLog → FaultLog
counted_if code l = cond (code == 0) l (counted l)

abbrev pub entered_if : ℕ → DateTime → ℕ → FaultEvent → FaultLog → List FaultEntry → List FaultEntry
entered_if sign at code event l m = cond (code == 0) m (entered sign at code event l m)

-- A change logs the old code's clearance, then the new one's onset.
abbrev pub counted_change : ℕ → ℕ → FaultLog → FaultLog
counted_change old new l = cond (old == new) l (counted_if new (counted_if old l))

abbrev pub entered_change : ℕ → DateTime → ℕ → ℕ → FaultLog → List FaultEntry → List FaultEntry
entered_change sign at old new l m =
    cond (old == new) m (entered_if sign at new Onset (counted_if old l) (entered_if sign at old Clearance l m))
