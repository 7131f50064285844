-- The replies that list the fault log and the order log, newest entry first. Assumes nothing.
use Rattle.std.specs.Prelude.{ℕ, List, [], ◌∷◌, ◌++◌}
use Rattle.replies.specs.Dates.{date_time_bytes}
use Rattle.replies.specs.List.{list_bytes}
use Rattle.replies.specs.declared.logs.FaultEntry.{FaultEntry}
use Rattle.replies.specs.declared.logs.FaultEvent.{FaultEvent}
use Rattle.replies.specs.declared.logs.FaultEvent.TheVariants.{Onset, Clearance}
use Rattle.replies.specs.declared.logs.OrderEntry.{OrderEntry}

abbrev pub event_number : FaultEvent → ℕ
event_number Onset = 1
event_number Clearance = 0

-- eleven bytes: sign, entry number, date and time, error code, onset or clearance
abbrev pub fault_bytes : FaultEntry → List ℕ
fault_bytes e = e.sign ∷ e.entry ∷ (date_time_bytes e.at ++ (e.code ∷ event_number e.event ∷ []))

unfoldable pub fault_log_reply : List FaultEntry → List ℕ
fault_log_reply entries = 0x19 ∷ list_bytes fault_bytes entries

abbrev pub order_bytes : OrderEntry → List ℕ
order_bytes e = e.code ∷ e.group ∷ e.operand ∷ []

unfoldable pub order_log_reply : List OrderEntry → List ℕ
order_log_reply entries = 0xF5 ∷ list_bytes order_bytes entries
