-- What is due to a group.
use Rattle.std.specs.Prelude.{ℕ, ◌-◌, ◌*◌, ◌%◌, Bool, cond, ◌&&◌, List, [], ◌∷◌, is_some, Some, None, Option}
use Rattle.calendar.specs.declared.date_time.DateTime.{DateTime}
use Rattle.calendar.specs.Moments.{day_number, minute_of_day, second_of_day}
use Rattle.records.specs.declared.frame.Frame.{Frame as TheFrame}
use Rattle.records.specs.declared.message.Message.{Message as TheMessage}
use Rattle.records.specs.declared.plan.Entry.{Entry}
use Rattle.records.specs.declared.plan.Plan.{Plan as ThePlan}
use Rattle.records.specs.declared.plan.Shows.{Shows}
use Rattle.records.specs.declared.plan.Shows.TheVariants.{Frame as shows_frame, Message as shows_message}
use Rattle.records.specs.declared.store.Store.{Store}
use Rattle.records.specs.Messages.{frame_at}
use Rattle.records.specs.Plans.{entry_at}
use Rattle.records.specs.Slots.{slot_of}
use Rattle.groups.specs.declared.due.Due.{Due}
use Rattle.groups.specs.declared.due.Moment.{Moment}
use Rattle.groups.specs.declared.due.Wanted.{Wanted}
use Rattle.groups.specs.declared.due.Wanted.TheVariants.{Frame, Message}
use Rattle.groups.specs.declared.group.Direct.{Direct}
use Rattle.groups.specs.declared.group.GroupRecord.{GroupRecord}

-- what is shown, if since so many seconds
abbrev pub wanted : Shows → ℕ → Wanted
wanted (shows_frame n) age = Frame n
wanted (shows_message n) age = Message n age

-- what a direct order asks for
abbrev pub ordered : Direct → Due
ordered d = record { wanted = wanted d.shows d.age; plan = None }

-- what plans go by at a date and time
abbrev pub moment_of : DateTime → Moment
moment_of t = record { weekday = day_number t % 7; minute = minute_of_day t; second = second_of_day t }

-- the entry of a stored plan at a minute of a weekday
abbrev pub entry_of : Option ThePlan → ℕ → ℕ → Option Entry
entry_of None weekday minute = None
entry_of (Some p) weekday minute = entry_at p weekday minute

-- what an entry has due at a second of the day; a message's age counts from the entry's start
abbrev pub entry_due : ℕ → ℕ → Option Entry → Option Due
entry_due n second None = None
entry_due n second (Some e) = Some (record { wanted = wanted e.shows (second - 60 * e.start); plan = Some n })

-- what the plan of a slot has due
abbrev pub slot_due : Store → Moment → Option ℕ → Option Due
slot_due s m None = None
slot_due s m (Some n) = entry_due n m.second (entry_of (slot_of s.plans n) m.weekday m.minute)

-- what the first of several has due that has something due
abbrev pub first_due : Store → Moment → List (Option ℕ) → Option Due
first_due s m [] = None
first_due s m (x ∷ xs) = cond (is_some (slot_due s m x)) (slot_due s m x) (first_due s m xs)

-- what the enabled plans have due at a date and time
unfoldable pub planned : Store → DateTime → List (Option ℕ) → Option Due
planned s t plans = first_due s (moment_of t) plans

-- the direct order comes before the plans
abbrev pub wanted_of : Store → DateTime → GroupRecord → Option Due
wanted_of s t g = elim g.direct [ None ↦ planned s t g.plans.slots | Some d ↦ Some (ordered d) ]

-- the frame or message that is named is stored
abbrev pub is_kept : Store → Wanted → Bool
is_kept s (Frame n) = is_some (slot_of s.frames n)
is_kept s (Message n age) = is_some (slot_of s.messages n)

abbrev pub where_kept : Store → Option Due → Option Due
where_kept s None = None
where_kept s (Some d) = cond (is_kept s d.wanted) (Some d) None

-- Due to a powered, enabled group is its direct order, else what an enabled plan has at the minute of the weekday, and
-- nothing where that names what is not stored.
unfoldable pub due_of : Store → DateTime → GroupRecord → Option Due
due_of s t g = cond (g.powered && g.enabled) (where_kept s (wanted_of s t g)) None

abbrev pub stored_frame : Store → Option ℕ → Option TheFrame
stored_frame s None = None
stored_frame s (Some n) = slot_of s.frames n

-- the frame that a stored message gives at an age
abbrev pub given_by : Option TheMessage → ℕ → Option ℕ
given_by None age = None
given_by (Some m) age = frame_at m.spans age

-- the stored frame that is to be shown
abbrev pub frame_of : Store → Due → Option TheFrame
frame_of s d = elim d.wanted [
  | Frame n ↦ slot_of s.frames n
  | Message n age ↦ stored_frame s (given_by (slot_of s.messages n) age)
]

abbrev pub message_of : Store → Due → Option TheMessage
message_of s d = elim d.wanted [ Frame n ↦ None | Message n age ↦ slot_of s.messages n ]

abbrev pub plan_of : Store → Due → Option ThePlan
plan_of s d = elim d.plan [ None ↦ None | Some n ↦ slot_of s.plans n ]
