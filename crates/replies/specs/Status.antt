-- The status reply. Assumes nothing.
use Rattle.std.specs.Prelude.{ℕ, Some, None, Option, List, [], ◌∷◌, ◌++◌}
use Rattle.std.specs.Int.{from_bool}
use Rattle.replies.specs.Reply.{word}
use Rattle.replies.specs.Dates.{date_time_bytes}
use Rattle.replies.specs.List.{list_bytes}
use Rattle.replies.specs.declared.status.Named.{Named}
use Rattle.replies.specs.declared.status.Row.{Row}
use Rattle.replies.specs.declared.status.Status.{Status}

-- a record's number and revision; both are 0 where there is none
abbrev pub named_bytes : Option Named → List ℕ
named_bytes None = 0 ∷ 0 ∷ []
named_bytes (Some n) = n.number ∷ n.revision ∷ []

-- a sign's nine bytes: number, error code, enabled; then frame, message and plan, each with its revision
abbrev pub row_bytes : Row → List ℕ
row_bytes row =
    row.sign ∷ row.error_code ∷ from_bool row.enabled ∷ (named_bytes row.frame ++ (named_bytes row.message ++ named_bytes row.plan))

-- on-line, application error, date and time, checksum, controller error 0; then how many signs, and a row for each
unfoldable pub status_reply : Status → List Row → List ℕ
status_reply s rows =
    0x06 ∷ from_bool s.online ∷ s.application_error ∷ (date_time_bytes s.at ++ (word s.checksum ++ (0 ∷ list_bytes row_bytes rows)))
