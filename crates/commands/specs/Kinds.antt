-- The numbers of the kinds of record.
use Rattle.std.specs.Prelude.{◌≡◌, ℕ, cond, Some, None, Option, Result, ◌==◌, IfErr}
use Rattle.std.specs.Result.{result_ok}
use Rattle.commands.specs.declared.kind.RecordKind.{RecordKind}
use Rattle.commands.specs.declared.kind.RecordKind.TheVariants.{Frame, Message, Plan}
use Rattle.commands.specs.declared.kind.UnknownKind.{UnknownKind}

-- the kind that a request for a stored record names
abbrev pub requested_kind : ℕ → Option RecordKind
requested_kind k = cond (k == 0) (Some Frame) (cond (k == 1) (Some Message) (cond (k == 2) (Some Plan) None))

-- the kind that a request for a listing names
abbrev pub listed_kind : ℕ → Option RecordKind
listed_kind k = cond (k == 1) (Some Frame) (cond (k == 2) (Some Message) (cond (k == 3) (Some Plan) None))

-- the number that a listing gives a kind
abbrev pub listing_number : RecordKind → ℕ
listing_number Frame = 1
listing_number Message = 2
listing_number Plan = 3

-- the result is the kind that is requested, or the number where there is none
abbrev pub Requests : ℕ → Result RecordKind UnknownKind → Type 0
Requests k r = (result_ok r ≡ requested_kind k) × IfErr r (λ e. e.0 ≡ k)
