-- Frames: what is kept of a text or a graphic, the face that it makes, and the command that it came by.
use Rattle.std.specs.Prelude.{ℕ, ◌-◌, List, [], ◌∷◌, ◌++◌, length, take, replicate}
use Rattle.commands.specs.declared.command.Header.{Header}
use Rattle.rack.specs.declared.look.Kind.{Kind}
use Rattle.rack.specs.declared.look.Kind.TheVariants.{Text, Graphic}
use Rattle.rack.specs.declared.look.Shape.{Shape}
use Rattle.rack.specs.Face.{Face, lit, shape_of}
use Rattle.records.specs.declared.frame.Frame.{Frame}
use Rattle.records.specs.Writing.{command_of}

-- up to 128 bytes, and zeros behind them
abbrev pub pictured : List ℕ → List ℕ
pictured bs = take 128 bs ++ replicate (128 - length (take 128 bs)) 0

abbrev pub counted : List ℕ → ℕ
counted bs = length (take 128 bs)

unfoldable pub text_frame : Header → ℕ → ℕ → ℕ → List ℕ → Frame
text_frame h font colour b t = record {
  header = h;
  look = record { kind = Text; rows = 1; columns = counted t; font = font; colour = colour; conspicuity = b };
  length = counted t;
  picture = pictured t;
}

unfoldable pub graphic_frame : Header → ℕ → ℕ → ℕ → List ℕ → Frame
graphic_frame h rows columns b p = record {
  header = h;
  look = record { kind = Graphic; rows = rows; columns = columns; font = 0; colour = 0; conspicuity = b };
  length = counted p;
  picture = pictured p;
}

-- the bytes that a sign is given
abbrev pub shown : Frame → List ℕ
shown f = take f.length f.picture

abbrev pub frame_face : Frame → Face
frame_face f = lit f.look (shown f)

abbrev pub shape_shown : Frame → Shape
shape_shown f = shape_of f.look (length (shown f))

-- what stands before the picture in the command
abbrev pub frame_head : Kind → Frame → List ℕ
frame_head Text f = 0x0A ∷ f.header.number ∷ f.header.revision ∷ f.look.font ∷ f.look.colour ∷ f.look.conspicuity ∷ f.look.columns ∷ []
frame_head Graphic f = 0x0B ∷ f.header.number ∷ f.header.revision ∷ f.look.rows ∷ f.look.columns ∷ f.look.conspicuity ∷ []

unfoldable pub frame_bytes : Frame → List ℕ
frame_bytes f = command_of (frame_head f.look.kind f) (shown f) f.header.check
