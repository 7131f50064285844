-- What a status reply tells of the controller and its signs.
use Rattle.std.specs.Prelude.{ℕ, zero, suc, ◌+◌, Bool, List, [], ◌∷◌, ◌++◌, length, Some, None, Option, slice_index}
use Rattle.rack.specs.declared.look.Shape.{Shape}
use Rattle.records.specs.declared.frame.Frame.{Frame}
use Rattle.records.specs.Stores.{checksum_of}
use Rattle.replies.specs.declared.status.Named.{Named}
use Rattle.replies.specs.declared.status.Row.{Row}
use Rattle.replies.specs.Status.{status_reply}
use Rattle.session.specs.Sessions.{is_open}
use Rattle.controller.specs.declared.service.Controller.{Controller}
use Rattle.controller.specs.Due.{group_at, sign_group, shown_on}
use Rattle.controller.specs.Site.{groups_of}

-- the number and revision of a frame that is shown
abbrev pub name_of : Option Frame → Option Named
name_of None = None
name_of (Some f) = Some (record { number = f.header.number; revision = f.header.revision })

-- A row names the frame that its sign shows; no message and no plan is due to any group yet.
abbrev pub row_at : Controller → (ℕ → Shape → Bool) → ℕ → Row
row_at c takes k = record {
  sign = k + 1;
  error_code = slice_index c.common.error_codes k;
  enabled = (group_at c.groups (sign_group c k)).enabled;
  frame = name_of (shown_on c takes (k + 1));
  message = None;
  plan = None;
}

-- the rows of the first n signs
abbrev pub rows_up_to : Controller → (ℕ → Shape → Bool) → ℕ → List Row
rows_up_to c takes zero = []
rows_up_to c takes (suc n) = rows_up_to c takes n ++ (row_at c takes n ∷ [])

-- The status reply with an application error code.
abbrev pub status_of : Controller → (ℕ → Shape → Bool) → ℕ → List ℕ
status_of c takes error =
    status_reply
    (record { online = is_open c.common.session; application_error = error; at = c.common.clock.shown; checksum = checksum_of c.common.store })
    (rows_up_to c takes (length (groups_of c.site)))
