-- How a session moves.
use Rattle.std.specs.Prelude.{ℕ, ◌+◌, Bool, true, false, cond, List, Some, None, Option, ◌==◌, nat_lt, codes}
use Rattle.session.specs.declared.Offsets.{Offsets}
use Rattle.session.specs.declared.Session.{Session}
use Rattle.session.specs.declared.Session.TheVariants.{Closed, Seeded, Open}
use Rattle.session.specs.declared.Event.{Event}
use Rattle.session.specs.declared.Event.TheVariants.{Start, RightWord, WrongWord, Heartbeat, End, Tick}
use Rattle.session.specs.Passwords.{right_word}

abbrev pub is_open : Session → Bool
is_open Closed = false
is_open (Seeded s) = false
is_open (Open n) = true

-- how a session is printed
abbrev pub name_of : Session → List ℕ
name_of Closed = codes "closed"
name_of (Seeded s) = codes "seeded"
name_of (Open n) = codes "open"

-- A second of silence in an open session; at the limit it closes.
abbrev pub silent : ℕ → ℕ → Session
silent n limit = cond (nat_lt (n + 1) limit) (Open (n + 1)) Closed

abbrev pub after : Session → Event → Session
after Closed (Start s) = Seeded s
after Closed RightWord = Closed
after Closed WrongWord = Closed
after Closed Heartbeat = Closed
after Closed End = Closed
after Closed (Tick l) = Closed
after (Seeded x) (Start s) = Seeded s
after (Seeded x) RightWord = Open 0
after (Seeded x) WrongWord = Closed
after (Seeded x) Heartbeat = Seeded x
after (Seeded x) End = Seeded x
after (Seeded x) (Tick l) = Seeded x
after (Open n) (Start s) = Seeded s
after (Open n) RightWord = Open n
after (Open n) WrongWord = Open n
after (Open n) Heartbeat = Open 0
after (Open n) End = Closed
after (Open n) (Tick l) = silent n l

-- What a password is to a session: right or wrong where it is seeded, and nothing otherwise.
abbrev pub judged : Session → ℕ → Offsets → Option Event
judged Closed w offsets = None
judged (Seeded s) w offsets = cond (w == right_word s offsets) (Some RightWord) (Some WrongWord)
judged (Open n) w offsets = None
