-- What is asked of each command before it is accepted.
use Rattle.std.specs.Prelude.{ℕ, Bool, true, false, ◌&&◌, ◌||◌, List, is_some, Some, None, Option, ◌==◌, nat_le, slice_index}
use Rattle.calendar.specs.declared.date_time.DateTime.{DateTime}
use Rattle.calendar.specs.Moments.{dated, timed}
use Rattle.session.specs.declared.Offsets.{Offsets}
use Rattle.session.specs.declared.Session.{Session}
use Rattle.session.specs.declared.Session.TheVariants.{Seeded}
use Rattle.session.specs.Passwords.{right_word}
use Rattle.commands.specs.declared.rejection.Rejection.{Rejection as Formless}
use Rattle.commands.specs.declared.rejection.Rejection.TheVariants.{UnknownCode, WrongLength}
use Rattle.commands.specs.declared.kind.RecordKind.{RecordKind}
use Rattle.commands.specs.Kinds.{requested_kind}
use Rattle.commands.specs.Sent.{Sent, start_session, password, heartbeat, set_time, stored_record, refused}
use Rattle.records.specs.declared.any_record.AnyRecord.{AnyRecord}
use Rattle.records.specs.declared.any_record.AnyRecord.TheVariants.{Plan}
use Rattle.records.specs.declared.store.Store.{Store}
use Rattle.records.specs.Plans.{clashing}
use Rattle.records.specs.Stores.{record_at}

-- The codes of group orders, which are not known yet.
abbrev pub order_code : ℕ → Bool
order_code code = code == 0x08 || ((nat_le 0x0E code && nat_le code 0x11) || (code == 0x15 || code == 0x16))

abbrev pub ordering : List ℕ → Bool
ordering m = order_code (slice_index m 0)

-- What is asked of a command beside fit values.
pub data Asked : Type 0 where
  nothing : Asked
  right_password : ℕ → Asked
  open_session : Asked
  open_and_time : DateTime → Asked
  open_and_stored : ℕ → ℕ → Asked
  other_form : Formless → Asked

abbrev pub asked : Sent → Asked
asked start_session = nothing
asked heartbeat = nothing
asked (password w) = right_password w
asked (set_time t) = open_and_time t
asked (stored_record k n) = open_and_stored k n
asked (refused e) = other_form e
asked _ = open_session

-- the code is of no command
abbrev pub code_unknown : Asked → Bool
code_unknown (other_form UnknownCode) = true
code_unknown _ = false

-- the length is not that of the code's form
abbrev pub length_wrong : Asked → Bool
length_wrong (other_form WrongLength) = true
length_wrong _ = false

abbrev pub needs_open : Asked → Bool
needs_open nothing = false
needs_open (right_password w) = false
needs_open (other_form e) = false
needs_open _ = true

-- a seeded session has a right word; no other has one
abbrev pub opens : Session → Offsets → ℕ → Bool
opens (Seeded s) offsets w = w == right_word s offsets
opens _ offsets w = false

abbrev pub password_right : Session → Offsets → Asked → Bool
password_right s offsets (right_password w) = opens s offsets w
password_right s offsets _ = true

-- a time to be set is one that exists
abbrev pub time_exists : Asked → Bool
time_exists (open_and_time t) = dated t && timed t
time_exists _ = true

abbrev pub kept_at : Store → Option RecordKind → ℕ → Bool
kept_at store None n = false
kept_at store (Some kind) n = is_some (record_at store kind n)

-- a record that is asked for is stored
abbrev pub record_kept : Store → Asked → Bool
record_kept store (open_and_stored k n) = kept_at store (requested_kind k) n
record_kept store _ = true

-- a plan has two entries that share a minute
abbrev pub overlapping : Option AnyRecord → Bool
overlapping (Some (Plan p)) = clashing p.entries
overlapping _ = false
