-- What a verdict means for the session and for the application error code.
use Rattle.std.specs.Prelude.{◌≡◌, ℕ, Some, None, Option}
use Rattle.session.specs.declared.Event.{Event}
use Rattle.session.specs.declared.Event.TheVariants.{Start, RightWord, WrongWord, Heartbeat, End}
use Rattle.session.specs.declared.Session.{Session}
use Rattle.session.specs.declared.Session.TheVariants.{Closed, Seeded}
use Rattle.session.specs.Sessions.{after}
use Rattle.commands.specs.Sent.{Sent, start_session, password, heartbeat, end_session}
use Rattle.judging.specs.declared.rejection.Rejection.{Rejection}
use Rattle.judging.specs.declared.rejection.Rejection.TheVariants.{BadPassword}
use Rattle.judging.specs.Judgements.{Judgement, accepted, rejected}
use Rattle.judging.specs.Rejections.{number_of}

-- What an accepted command is to the session; the seed is the byte of the newest tick.
abbrev pub moves : ℕ → Sent → Option Event
moves tick start_session = Some (Start tick)
moves tick (password w) = Some RightWord
moves tick heartbeat = Some Heartbeat
moves tick end_session = Some End
moves tick _ = None

-- Of the rejections, only that of a password is anything to the session.
abbrev pub upsets : Rejection → Option Event
upsets BadPassword = Some WrongWord
upsets _ = None

abbrev pub event_of : ℕ → Judgement → Option Event
event_of tick (accepted said) = moves tick said
event_of tick (rejected r) = upsets r

abbrev pub moved_by : Session → Option Event → Session
moved_by s None = s
moved_by s (Some e) = after s e

abbrev pub session_after : Session → ℕ → Judgement → Session
session_after s tick j = moved_by s (event_of tick j)

-- A wrong password closes a seeded session and leaves any other.
abbrev pub unseeded : Session → Session
unseeded (Seeded s) = Closed
unseeded s = s

-- What a rejection leaves of a session: all of it, but for a wrong password.
abbrev pub spared : Rejection → Session → Session
spared BadPassword s = unseeded s
spared _ s = s

abbrev pub Spares : Session → Judgement → Session → Type 0
Spares before (accepted said) left = Unit {0}
Spares before (rejected r) left = left ≡ spared r before

-- The error code that an accepted command leaves: none after the start of a session, else what there was.
abbrev pub error_kept : ℕ → Sent → ℕ
error_kept before start_session = 0
error_kept before _ = before

abbrev pub error_after : ℕ → Judgement → ℕ
error_after before (accepted said) = error_kept before said
error_after before (rejected r) = number_of r
