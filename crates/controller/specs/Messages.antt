-- What a message on the line makes of what every group sees.
use Rattle.std.specs.Prelude.{ℕ, List, Some, None, Option}
use Rattle.calendar.specs.declared.clock.Clock.{Clock}
use Rattle.calendar.specs.Clocks.{set_to}
use Rattle.commands.specs.Sent.{Sent, start_session, password, heartbeat, end_session, set_time, text, graphic, message, plan, group_order, enabled_plans, stored_record, fault_log, empty_fault_log, order_log, readings, list_stored, refused}
use Rattle.judging.specs.Conditions.{Asked, asked, nothing, right_password, open_session, open_and_time, open_and_stored, other_form}
use Rattle.judging.specs.Effects.{session_after}
use Rattle.judging.specs.Judgements.{Judgement, accepted, rejected, judged}
use Rattle.records.specs.declared.any_record.AnyRecord.{AnyRecord}
use Rattle.records.specs.declared.store.Store.{Store}
use Rattle.records.specs.AnyRecords.{record_of}
use Rattle.records.specs.Stores.{stored}
use Rattle.controller.specs.declared.common.Common.{Common}
use Rattle.controller.specs.declared.faults.FaultLog.{FaultLog}
use Rattle.controller.specs.declared.site.Site.{Site}
use Rattle.journal.specs.Logs.{empty}

-- The verdict on a message.
abbrev pub verdict_on : Site → Common → List ℕ → Judgement
verdict_on s c m = judged c.session s.offsets c.store m

-- A storing command puts its record into the store.
abbrev pub put_in : Option AnyRecord → Store → Store
put_in None s = s
put_in (Some r) s = stored s r

abbrev pub store_after : Judgement → Store → Store
store_after (accepted said) s = put_in (record_of said) s
store_after (rejected r) s = s

-- A time to be set is set.
abbrev pub set_by : Asked → Clock → Clock
set_by nothing c = c
set_by (right_password w) c = c
set_by open_session c = c
set_by (open_and_time t) c = set_to t c
set_by (open_and_stored k n) c = c
set_by (other_form e) c = c

abbrev pub clock_after : Judgement → Clock → Clock
clock_after (accepted said) c = set_by (asked said) c
clock_after (rejected r) c = c

-- Emptying the fault log; its numbering goes on.
abbrev pub empty_log : FaultLog → FaultLog
empty_log l = record { journal = empty; next_entry = l.next_entry }

abbrev pub emptied_by : Sent → FaultLog → FaultLog
emptied_by start_session l = l
emptied_by (password w) l = l
emptied_by heartbeat l = l
emptied_by end_session l = l
emptied_by (set_time t) l = l
emptied_by (text h f c b t) l = l
emptied_by (graphic h rows columns b p) l = l
emptied_by (message h spans) l = l
emptied_by (plan h days lines) l = l
emptied_by (group_order o g x) l = l
emptied_by enabled_plans l = l
emptied_by (stored_record k n) l = l
emptied_by fault_log l = l
emptied_by empty_fault_log l = empty_log l
emptied_by order_log l = l
emptied_by readings l = l
emptied_by (list_stored k) l = l
emptied_by (refused e) l = l

abbrev pub log_after : Judgement → FaultLog → FaultLog
log_after (accepted said) l = emptied_by said l
log_after (rejected r) l = l

-- What a verdict leaves: an accepted message is carried out; a rejected one alters nothing but, where it is a wrong
-- password, the session.
abbrev pub obeyed : Judgement → Common → Common
obeyed j c = record {
  store = store_after j c.store;
  session = session_after c.session c.tick_byte j;
  clock = clock_after j c.clock;
  tick_byte = c.tick_byte;
  error_codes = c.error_codes;
  readings = c.readings;
  faults = log_after j c.faults;
}

-- the part of it that is not the session's
abbrev pub carried_out : Sent → Common → Common
carried_out said c = record {
  store = put_in (record_of said) c.store;
  session = c.session;
  clock = set_by (asked said) c.clock;
  tick_byte = c.tick_byte;
  error_codes = c.error_codes;
  readings = c.readings;
  faults = emptied_by said c.faults;
}
