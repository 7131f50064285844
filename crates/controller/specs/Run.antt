-- What each call makes of the controller as one group sees it, and what a list of calls makes of it.
use Rattle.std.specs.Prelude.{◌≡◌, ℕ, ◌+◌, ◌-◌, ◌<◌, ◌≤◌, Bool, true, false, cond, List, [], ◌∷◌, length, replicate, is_ok, Ok, Err, fold, Result, nat_le, slice_index, slice_set}
use Rattle.analog.specs.declared.reading.Reading.{Reading as Measured}
use Rattle.analog.specs.Slots.{slot_of, state_of, setting, set_to}
use Rattle.calendar.specs.Clocks.{ticked}
use Rattle.rack.specs.declared.look.Shape.{Shape}
use Rattle.rack.specs.Face.{Face, has}
use Rattle.replies.specs.declared.logs.FaultEntry.{FaultEntry}
use Rattle.session.specs.Sessions.{after}
use Rattle.session.specs.declared.Event.TheVariants.{Tick as Second}
use Rattle.controller.specs.declared.call.Call.{Call}
use Rattle.controller.specs.declared.call.Call.TheVariants.{Line, Tick, Report, Reading}
use Rattle.controller.specs.declared.call.CallRefusal.{CallRefusal}
use Rattle.controller.specs.declared.call.CallRefusal.TheVariants.{ShortMemory, NotAttached, UnfitReading}
use Rattle.controller.specs.declared.common.Common.{Common}
use Rattle.controller.specs.declared.service.Controller.{Controller}
use Rattle.controller.specs.declared.site.Site.{Site}
use Rattle.controller.specs.Due.{View, view, face_due, sign_group}
use Rattle.controller.specs.Site.{groups_of}
use Rattle.controller.specs.Faults.{counted_change, entered_change}
use Rattle.controller.specs.State.{opening_common, opening_group}

abbrev pub opening : Site → Controller
opening s = record { site = s; common = opening_common; groups = replicate 12 opening_group }

-- the controller with another common part
abbrev pub with_common : Controller → Common → Controller
with_common c x = record { site = c.site; common = x; groups = c.groups }

-- A tick brings the newest tick byte and adds a second to the clock and to an open session's silence.
abbrev pub after_tick : Site → ℕ → Common → Common
after_tick s b c = record {
  store = c.store;
  session = after c.session (Second s.silence_limit);
  clock = ticked c.clock;
  tick_byte = b;
  error_codes = c.error_codes;
  readings = c.readings;
  faults = c.faults;
}

-- A sign's report sets its error code and logs the change.
abbrev pub with_report : ℕ → ℕ → Common → Common
with_report sign code c = record {
  store = c.store;
  session = c.session;
  clock = c.clock;
  tick_byte = c.tick_byte;
  error_codes = slice_set c.error_codes (sign - 1) code;
  readings = c.readings;
  faults = counted_change (slice_index c.error_codes (sign - 1)) code c.faults;
}

-- A reading is kept where its slot takes it.
abbrev pub with_reading : ℕ → Measured → ℕ → Common → Common
with_reading slot reading state c = record {
  store = c.store;
  session = c.session;
  clock = c.clock;
  tick_byte = c.tick_byte;
  error_codes = c.error_codes;
  readings = set_to (slot_of slot) reading (state_of state) c.readings;
  faults = c.faults;
}

-- the fault log's memory after a report of an attached sign
abbrev pub faults_after : ℕ → ℕ → Common → List FaultEntry → List FaultEntry
faults_after sign code c memory = entered_change sign c.clock.shown (slice_index c.error_codes (sign - 1)) code c.faults memory

-- What a sign report answers: too little log memory first, then a sign that is not attached.
abbrev pub report_verdict : Bool → Bool → Result (Unit {0}) CallRefusal
report_verdict enough attached = cond enough (cond attached (Ok tt) (Err NotAttached)) (Err ShortMemory)

abbrev pub report_answer : Site → ℕ → ℕ → Result (Unit {0}) CallRefusal
report_answer s sign lent = report_verdict (nat_le 20 lent) (has (length (groups_of s)) sign)

-- What a reading answers.
abbrev pub reading_answer : ℕ → Measured → ℕ → Result (Unit {0}) CallRefusal
reading_answer slot reading state = cond (is_ok (setting (slot_of slot) reading (state_of state))) (Ok tt) (Err UnfitReading)

-- Whether a call is made with this much log memory: a report with too little is not.
abbrev pub is_made : ℕ → Call → Bool
is_made lent (Line b) = true
is_made lent (Tick b) = true
is_made lent (Report sign code) = nat_le 20 lent
is_made lent (Reading slot reading state) = true

-- the calls of a list that are made
abbrev pub made : ℕ → List Call → List Call
made lent [] = []
made lent (x ∷ xs) = cond (is_made lent x) (x ∷ made lent xs) (made lent xs)

-- What a call answers.
abbrev pub answer : Site → ℕ → Call → Result (Unit {0}) CallRefusal
answer s lent (Line b) = Ok tt
answer s lent (Tick b) = Ok tt
answer s lent (Report sign code) = report_answer s sign lent
answer s lent (Reading slot reading state) = reading_answer slot reading state

-- What a call that is made makes of a group's view.
abbrev pub step : Site → View → Call → View
step s v (Line b) = v
step s v (Tick b) = record { common = after_tick s b v.common; group = v.group }
step s v (Report sign code) = record { common = cond (has (length (groups_of s)) sign) (with_report sign code v.common) v.common; group = v.group }
step s v (Reading slot reading state) = record { common = with_reading slot reading state v.common; group = v.group }

-- The view of group g after a list of calls from the opening of service.
abbrev pub view_after : Site → ℕ → List Call → View
view_after s g calls = fold (step s) (view g (opening s)) calls

-- Whether faces may have to move at the end of a call.
abbrev pub moves : Call → Bool
moves (Line b) = false
moves (Tick b) = true
moves (Report sign code) = false
moves (Reading slot reading state) = false

-- What a call leaves in the fault log's memory.
abbrev pub memory_after : Site → Common → Call → List FaultEntry → List FaultEntry
memory_after s c (Line b) m = m
memory_after s c (Tick b) m = m
memory_after s c (Report sign code) m = cond (is_ok (report_answer s sign (length m))) (faults_after sign code c m) m
memory_after s c (Reading slot reading state) m = m

-- Signs show what is due: after a list of calls from the opening of service, each attached sign that takes the frame due to
-- its group is lit with it, and each other attached sign is dark.
abbrev pub SignsShowDue : Site → (ℕ → Shape → Bool) → List Call → (ℕ → Face) → Type 0
SignsShowDue s takes calls face =
    (k : ℕ) → k < length (groups_of s) → face (k + 1) ≡ face_due (view_after s (slice_index (groups_of s) k) calls) (takes (k + 1))

-- A history of calls leads from the opening of service to a controller and to faces: each group has the view that the
-- history gives it, and signs show what is due.
pub record Reached (s : Site) (takes : ℕ → Shape → Bool) (history : List Call) (c : Controller) (face : ℕ → Face) : Type 0 where
  pub site : c.site ≡ s
  pub state : (g : ℕ) → view g c ≡ view_after s g history
  pub faces : SignsShowDue s takes history face

-- What a call with this much log memory leaves of the controller and of the faces.
pub record Acted (lent : ℕ) (call : Call) (before after : Controller) (takes : ℕ → Shape → Bool) (showed shows : ℕ → Face) : Type 0 where
  pub site : after.site ≡ before.site
  pub state : (g : ℕ) → view g after ≡ cond (is_made lent call) (step before.site (view g before) call) (view g before)
  pub attached : (k : ℕ) → k < length (groups_of before.site)
      → shows (k + 1) ≡ cond (moves call) (face_due (view (sign_group before k) after) (takes (k + 1))) (showed (k + 1))
  pub others : (k : ℕ) → length (groups_of before.site) ≤ k → shows (k + 1) ≡ showed (k + 1)
