-- Records of any kind: what a command sets, and the command that a record came by.
use Rattle.std.specs.Prelude.{◌≡◌, ℕ, ◌<◌, List, Some, None, Option, slice_index}
use Rattle.commands.specs.Sent.{Sent, text, graphic, message, plan}
use Rattle.records.specs.declared.any_record.AnyRecord.{AnyRecord}
use Rattle.records.specs.declared.any_record.AnyRecord.TheVariants.{Frame, Message, Plan}
use Rattle.records.specs.Frames.{text_frame, graphic_frame, frame_bytes}
use Rattle.records.specs.Messages.{message_bytes}
use Rattle.records.specs.Plans.{plan_of, plan_bytes}

abbrev pub record_of : Sent → Option AnyRecord
record_of (text h f c b t) = Some (Frame (text_frame h f c b t))
record_of (graphic h rows columns b p) = Some (Frame (graphic_frame h rows columns b p))
record_of (message h spans) = Some (Message (record { header = h; spans = spans }))
record_of (plan h days lines) = Some (Plan (plan_of h days lines))
record_of _ = None

abbrev pub bytes_of : AnyRecord → List ℕ
bytes_of (Frame f) = frame_bytes f
bytes_of (Message m) = message_bytes m
bytes_of (Plan p) = plan_bytes p

-- a list of bytes
abbrev pub Bytes : List ℕ → Type 0
Bytes m = (i : ℕ) → slice_index m i < 256

-- the command of a record is the message that set it
abbrev pub GivesBack : List ℕ → Option AnyRecord → Type 0
GivesBack m None = Unit {0}
GivesBack m (Some r) = bytes_of r ≡ m
