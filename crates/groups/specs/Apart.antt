-- Enabled plans that share no minute, and what is due by them.
use Rattle.std.specs.Prelude.{◌≡◌, ℕ, ◌<◌, Bool, true, false, ◌&&◌, List, is_some, Some, None, Option, ◌≢◌, slice_index_or}
use Rattle.calendar.specs.declared.date_time.DateTime.{DateTime}
use Rattle.records.specs.declared.store.Store.{Store}
use Rattle.records.specs.Slots.{slot_of}
use Rattle.groups.specs.declared.due.Due.{Due}
use Rattle.groups.specs.declared.group.GroupRecord.{GroupRecord}
use Rattle.groups.specs.Due.{entry_of, moment_of, slot_due, where_kept}

-- the plan of a slot has an entry at a minute of a weekday
abbrev pub runs_at : Store → ℕ → ℕ → Option ℕ → Bool
runs_at s weekday minute None = false
runs_at s weekday minute (Some n) = is_some (entry_of (slot_of s.plans n) weekday minute)

-- No two enabled plans have an entry at one minute of one weekday.
abbrev pub Apart : Store → List (Option ℕ) → Type 0
Apart s xs = (i j w m : ℕ) → i < j → runs_at s w m (slice_index_or xs i None) ≡ true → runs_at s w m (slice_index_or xs j None) ≢ true

-- Where the enabled plans are apart, their order does not matter: without a direct order, what any of them has at the
-- minute is due.
abbrev pub AnyOrder : Store → DateTime → GroupRecord → Option Due → Type 0
AnyOrder s t g r = Apart s g.plans.slots → g.direct ≡ None → (g.powered && g.enabled) ≡ true
    → (i : ℕ) (d : Due) → slot_due s (moment_of t) (slice_index_or g.plans.slots i None) ≡ Some d → r ≡ where_kept s (Some d)
