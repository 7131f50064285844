-- A clock after a tick and after a setting. Assumes nothing.
use Rattle.std.specs.Prelude.{◌≡◌, Bool, true, false, refl}
use Rattle.calendar.specs.Moments.{dated, timed, start, next_second}
use Rattle.calendar.specs.Following.{next-dated, next-timed}
use Rattle.calendar.specs.declared.date_time.DateTime.{DateTime}
use Rattle.calendar.specs.declared.clock.Clock.{Clock}

abbrev pub started : Clock
started = record { shown = start; date = refl; time = refl }

-- a second later
unfoldable pub ticked : Clock → Clock
ticked c = record { shown = next_second c.shown; date = next-dated c.shown c.date; time = next-timed c.shown c.time }

-- by the tests of its date and its time: what was given where both hold, else the clock as it was
unfoldable pub chosen : Clock → (t : DateTime) (d h : Bool) → dated t ≡ d → timed t ≡ h → Clock
chosen c t true true d h = record { shown = t; date = d; time = h }
chosen c t true false d h = c
chosen c t false h d e = c

-- the clock after a setting: what was given, where it exists
unfoldable pub set_to : DateTime → Clock → Clock
unfolding chosen
set_to t c = chosen c t (dated t) (timed t) refl refl
