-- What is due to a group, and what its signs then show.
use Rattle.std.specs.Prelude.{ℕ, ◌-◌, Bool, false, cond, ◌&&◌, List, length, Some, None, Option, slice_index, slice_index_or}
use Rattle.rack.specs.declared.look.Shape.{Shape}
use Rattle.rack.specs.Face.{Face, dark, has}
use Rattle.records.specs.declared.frame.Frame.{Frame}
use Rattle.records.specs.declared.store.Store.{Store}
use Rattle.records.specs.Frames.{frame_face, shape_shown}
use Rattle.records.specs.Slots.{slot_of}
use Rattle.controller.specs.declared.common.Common.{Common}
use Rattle.controller.specs.declared.group.GroupRecord.{GroupRecord}
use Rattle.controller.specs.declared.service.Controller.{Controller}
use Rattle.controller.specs.Site.{groups_of}

-- The controller as one group sees it: what every group sees, and its own record.
pub record View : Type 0 where
  pub common : Common
  pub group : GroupRecord

-- a record without power stands for a group that does not exist
abbrev pub absent : GroupRecord
absent = record { direct = None; powered = false; enabled = false }

-- The record of group g stands at place g - 1.
abbrev pub group_at : List GroupRecord → ℕ → GroupRecord
group_at gs g = cond (has 12 g) (slice_index_or gs (g - 1) absent) absent

abbrev pub view : ℕ → Controller → View
view g c = record { common = c.common; group = group_at c.groups g }

-- The number of the frame that is due to a powered, enabled group.
abbrev pub due_number : GroupRecord → Option ℕ
due_number r = cond (r.powered && r.enabled) r.direct None

abbrev pub stored_under : Store → Option ℕ → Option Frame
stored_under s None = None
stored_under s (Some n) = slot_of s.frames n

abbrev pub frame_due : View → Option Frame
frame_due v = stored_under v.common.store (due_number v.group)

-- A sign shows the frame that is due where it takes it, and is dark otherwise.
abbrev pub shown_by : (Shape → Bool) → Option Frame → Option Frame
shown_by takes None = None
shown_by takes (Some f) = cond (takes (shape_shown f)) (Some f) None

abbrev pub face_of : Option Frame → Face
face_of None = dark
face_of (Some f) = frame_face f

abbrev pub face_due : View → (Shape → Bool) → Face
face_due v takes = face_of (shown_by takes (frame_due v))

-- the group of the sign at place k
abbrev pub sign_group : Controller → ℕ → ℕ
sign_group c k = slice_index (groups_of c.site) k

-- The frame that an attached sign shows; a sign that is not attached shows none.
abbrev pub shown_on : Controller → (ℕ → Shape → Bool) → ℕ → Option Frame
shown_on c takes s = cond (has (length (groups_of c.site)) s) (shown_by (takes s) (frame_due (view (sign_group c (s - 1)) c))) None
