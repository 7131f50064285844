-- What a message says: its form and values, or why it has none.
use Rattle.std.specs.Prelude.{ℕ, ◌+◌, ◌*◌, ◌/◌, cond, List, [], ◌∷◌, length, take, drop, Some, None, Ok, Err, Option, Result, ◌==◌, slice_index}
use Rattle.std.specs.Borrow.{Bor}
use Rattle.calendar.specs.declared.date_time.DateTime.{DateTime}
use Rattle.commands.specs.declared.command.Command.{Command}
use Rattle.commands.specs.declared.command.Command.TheVariants.{StartSession, Password, Heartbeat, EndSession, SetTime, SetText, SetGraphic, SetMessage, SetPlan, GroupOrder, EnabledPlans, StoredRecord, FaultLog, EmptyFaultLog, OrderLog, Readings, ListStored}
use Rattle.commands.specs.declared.command.Header.{Header}
use Rattle.commands.specs.declared.command.Order.{Order}
use Rattle.commands.specs.declared.command.Order.TheVariants.{Reset, Frame, Message, EnablePlan, DisablePlan, Power, Enable}
use Rattle.commands.specs.declared.lists.Span.{Span}
use Rattle.commands.specs.declared.lists.Line.{Line}
use Rattle.commands.specs.declared.rejection.Rejection.{Rejection}
use Rattle.commands.specs.declared.rejection.Rejection.TheVariants.{UnknownCode, WrongLength}
use Rattle.commands.specs.Orders.{code_of}

-- A command as plain values, its text or picture as the bytes that it borrows.
pub data Sent : Type 0 where
  start_session : Sent
  password : ℕ → Sent
  heartbeat : Sent
  end_session : Sent
  set_time : DateTime → Sent
  text : Header → ℕ → ℕ → ℕ → List ℕ → Sent
  graphic : Header → ℕ → ℕ → ℕ → List ℕ → Sent
  message : Header → List Span → Sent
  plan : Header → ℕ → List Line → Sent
  group_order : Order → ℕ → ℕ → Sent
  enabled_plans : Sent
  stored_record : ℕ → ℕ → Sent
  fault_log : Sent
  empty_fault_log : Sent
  order_log : Sent
  readings : Sent
  list_stored : ℕ → Sent
  refused : Rejection → Sent

abbrev pub values_of : Command → Sent
values_of StartSession = start_session
values_of (Password w) = password w
values_of Heartbeat = heartbeat
values_of EndSession = end_session
values_of (SetTime t) = set_time t
values_of (SetText h f c b t) = text h f c b t.now
values_of (SetGraphic h rows columns b p) = graphic h rows columns b p.now
values_of (SetMessage h spans) = message h spans
values_of (SetPlan h days lines) = plan h days lines
values_of (GroupOrder o g x) = group_order o g x
values_of EnabledPlans = enabled_plans
values_of (StoredRecord k n) = stored_record k n
values_of FaultLog = fault_log
values_of EmptyFaultLog = empty_fault_log
values_of OrderLog = order_log
values_of Readings = readings
values_of (ListStored k) = list_stored k

abbrev pub seen : Result Command Rejection → Sent
seen (Ok c) = values_of c
seen (Err e) = refused e

-- a word at a place, high byte first
abbrev pub word_at : List ℕ → ℕ → ℕ
word_at m i = slice_index m i * 256 + slice_index m (i + 1)

-- the number and the revision that a storing command begins with, and the check word at a place
abbrev pub header_at : List ℕ → ℕ → Header
header_at m i = record { number = slice_index m 1; revision = slice_index m 2; check = word_at m i }

abbrev pub time_at : List ℕ → ℕ → DateTime
time_at m i = record {
  day = slice_index m i;
  month = slice_index m (i + 1);
  year = word_at m (i + 2);
  hour = slice_index m (i + 4);
  minute = slice_index m (i + 5);
  second = slice_index m (i + 6);
}

-- the bytes that a row of pixels takes
abbrev pub stride : ℕ → ℕ
stride columns = (columns + 7) / 8

abbrev pub span_at : List ℕ → ℕ → Span
span_at m i = record { frame = slice_index m i; seconds = slice_index m (i + 1) }

abbrev pub spans_at : List ℕ → ℕ → List Span
spans_at m i = span_at m i ∷ span_at m (i + 2) ∷ span_at m (i + 4) ∷ span_at m (i + 6) ∷ span_at m (i + 8) ∷ span_at m (i + 10) ∷ []

abbrev pub line_at : List ℕ → ℕ → Line
line_at m i = record {
  kind = slice_index m i;
  number = slice_index m (i + 1);
  start = record { hour = slice_index m (i + 2); minute = slice_index m (i + 3) };
  stop = record { hour = slice_index m (i + 4); minute = slice_index m (i + 5) };
}

abbrev pub lines_at : List ℕ → ℕ → List Line
lines_at m i = line_at m i ∷ line_at m (i + 6) ∷ line_at m (i + 12) ∷ line_at m (i + 18) ∷ line_at m (i + 24) ∷ line_at m (i + 30) ∷ []

-- What a message of n bytes says; one of any other length is refused.
abbrev pub exactly : List ℕ → ℕ → Sent → Sent
exactly m n v = cond (length m == n) v (refused WrongLength)

-- The forms: lengths go by the count, rows and columns as sent.
abbrev pub password_form : List ℕ → Sent
password_form m = exactly m 3 (password (word_at m 1))

abbrev pub time_form : List ℕ → Sent
time_form m = exactly m 8 (set_time (time_at m 1))

unfoldable pub text_form : List ℕ → Sent
text_form m = exactly m (9 + slice_index m 6)
    (text (header_at m (7 + slice_index m 6)) (slice_index m 3) (slice_index m 4) (slice_index m 5) (take (slice_index m 6) (drop 7 m)))

unfoldable pub graphic_form : List ℕ → Sent
graphic_form m = exactly m (8 + slice_index m 3 * stride (slice_index m 4))
    (graphic (header_at m (6 + slice_index m 3 * stride (slice_index m 4))) (slice_index m 3) (slice_index m 4) (slice_index m 5)
    (take (slice_index m 3 * stride (slice_index m 4)) (drop 6 m)))

unfoldable pub message_form : List ℕ → Sent
message_form m = exactly m 17 (message (header_at m 15) (spans_at m 3))

unfoldable pub plan_form : List ℕ → Sent
plan_form m = exactly m 42 (plan (header_at m 40) (slice_index m 3) (lines_at m 4))

abbrev pub order_form : Order → List ℕ → Sent
order_form o m = exactly m 3 (group_order o (slice_index m 1) (slice_index m 2))

abbrev pub record_form : List ℕ → Sent
record_form m = exactly m 3 (stored_record (slice_index m 1) (slice_index m 2))

abbrev pub list_form : List ℕ → Sent
list_form m = exactly m 2 (list_stored (slice_index m 1))

-- a message with this code has this form
abbrev pub coded : ℕ → ℕ → Sent → Sent → Sent
coded c code v others = cond (c == code) v others

-- What a message with the code of an order says; any other code is unknown.
abbrev pub ordered : ℕ → List ℕ → Sent
ordered c m =
    coded c (code_of Reset) (order_form Reset m) (
    coded c (code_of Frame) (order_form Frame m) (
    coded c (code_of Message) (order_form Message m) (
    coded c (code_of EnablePlan) (order_form EnablePlan m) (
    coded c (code_of DisablePlan) (order_form DisablePlan m) (
    coded c (code_of Power) (order_form Power m) (
    coded c (code_of Enable) (order_form Enable m) (
    refused UnknownCode)))))))

-- The table of codes, those of orders last.
abbrev pub form_of : ℕ → List ℕ → Sent
form_of c m =
    coded c 0x02 (exactly m 1 start_session) (
    coded c 0x04 (password_form m) (
    coded c 0x05 (exactly m 1 heartbeat) (
    coded c 0x07 (exactly m 1 end_session) (
    coded c 0x09 (time_form m) (
    coded c 0x0A (text_form m) (
    coded c 0x0B (graphic_form m) (
    coded c 0x0C (message_form m) (
    coded c 0x0D (plan_form m) (
    coded c 0x12 (exactly m 1 enabled_plans) (
    coded c 0x17 (record_form m) (
    coded c 0x18 (exactly m 1 fault_log) (
    coded c 0x1A (exactly m 1 empty_fault_log) (
    coded c 0xF4 (exactly m 1 order_log) (
    coded c 0xFB (exactly m 1 readings) (
    coded c 0xFF (list_form m) (
    ordered c m))))))))))))))))

-- What a message says, by its code.
unfoldable pub parsed : List ℕ → Sent
parsed m = form_of (slice_index m 0) m

-- A body of bytes with its check word, if there is one.
abbrev pub bodied : Option (Bor (List ℕ) × ℕ) → Option (List ℕ × ℕ)
bodied None = None
bodied (Some p) = Some (p.0.now, p.1)

abbrev pub body_of : List ℕ → ℕ → ℕ → Option (List ℕ × ℕ)
body_of m from size = cond (length m == from + size + 2) (Some (take size (drop from m), word_at m (from + size))) None
