-- The verdict on a message: the first ground in the order that stands against it, or the command that it is.
use Rattle.std.specs.Prelude.{◌≡◌, ℕ, Bool, true, false, cond, not, ◌&&◌, ◌||◌, List, [], ◌∷◌, ◌++◌, Ok, Err, Result}
use Rattle.session.specs.declared.Offsets.{Offsets}
use Rattle.session.specs.declared.Session.{Session}
use Rattle.session.specs.Sessions.{is_open}
use Rattle.commands.specs.declared.command.Command.{Command}
use Rattle.fitness.specs.Fitness.{fit}
use Rattle.commands.specs.Sent.{Sent, values_of, parsed}
use Rattle.fitness.specs.Soundness.{right_word}
use Rattle.records.specs.declared.store.Store.{Store}
use Rattle.records.specs.AnyRecords.{record_of}
use Rattle.judging.specs.declared.rejection.Rejection.{Rejection}
use Rattle.judging.specs.declared.rejection.Rejection.TheVariants.{UnknownCode, WrongLength, NotOpen, BadPassword, WrongCheckWord, Unfit, NotStored, Overlap}
use Rattle.judging.specs.Rejections.{in_order}
use Rattle.judging.specs.Conditions.{asked, ordering, code_unknown, length_wrong, needs_open, password_right, time_exists, record_kept, overlapping}

pub data Judgement : Type 0 where
  accepted : Sent → Judgement
  rejected : Rejection → Judgement

abbrev pub judgement : Result Command Rejection → Judgement
judgement (Ok c) = accepted (values_of c)
judgement (Err e) = rejected e

-- Which grounds stand against a message, of a session with its offsets and a store, that says this.
abbrev pub against : Session → Offsets → Store → List ℕ → Sent → Rejection → Bool
against s offsets store m said UnknownCode = ordering m || code_unknown (asked said)
against s offsets store m said WrongLength = length_wrong (asked said)
against s offsets store m said NotOpen = needs_open (asked said) && not (is_open s)
against s offsets store m said BadPassword = not (password_right s offsets (asked said))
against s offsets store m said WrongCheckWord = not (right_word m)
against s offsets store m said Unfit = not (fit said && time_exists (asked said))
against s offsets store m said NotStored = not (record_kept store (asked said))
against s offsets store m said Overlap = overlapping (record_of said)

-- The first ground of several that stands against what was said decides; if none does, it is accepted.
abbrev pub decided : (Rejection → Bool) → Sent → List Rejection → Judgement
decided stands said [] = accepted said
decided stands said (r ∷ rs) = cond (stands r) (rejected r) (decided stands said rs)

unfoldable pub judged : Session → Offsets → Store → List ℕ → Judgement
judged s offsets store m = decided (against s offsets store m (parsed m)) (parsed m) in_order

-- none of several grounds stands
abbrev pub NoneOf : (Rejection → Bool) → List Rejection → Type 0
NoneOf stands [] = Unit {0}
NoneOf stands (r ∷ rs) = (stands r ≡ false) × NoneOf stands rs

-- a ground that stands, where none before it does
abbrev pub FirstOf : (Rejection → Bool) → List Rejection → Rejection → Type 0
FirstOf stands order r = (before : List Rejection) × (behind : List Rejection)
    × (order ≡ before ++ (r ∷ behind)) × NoneOf stands before × (stands r ≡ true)

-- A message is rejected on the first ground in the order; where none stands it is accepted as what it says.
unfoldable pub Grounded : (Rejection → Bool) → Sent → List Rejection → Judgement → Type 0
Grounded stands said order (accepted v) = (v ≡ said) × NoneOf stands order
Grounded stands said order (rejected r) = FirstOf stands order r
