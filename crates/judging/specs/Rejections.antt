-- The rejections of a message: their numbers, and the order in which their grounds are checked.
use Rattle.std.specs.Prelude.{ℕ, List, [], ◌∷◌}
use Rattle.commands.specs.declared.rejection.Rejection.{Rejection as Formless}
use Rattle.commands.specs.declared.rejection.Rejection.TheVariants.{UnknownCode as unknown_code, WrongLength as wrong_length}
use Rattle.judging.specs.declared.rejection.Rejection.{Rejection}
use Rattle.judging.specs.declared.rejection.Rejection.TheVariants.{UnknownCode, WrongLength, NotOpen, BadPassword, WrongCheckWord, Unfit, NotStored, Overlap}

abbrev pub number_of : Rejection → ℕ
number_of UnknownCode = 0x08
number_of WrongLength = 0x41
number_of NotOpen = 0x40
number_of BadPassword = 0x42
number_of WrongCheckWord = 0x43
number_of Unfit = 0x44
number_of NotStored = 0x45
number_of Overlap = 0x46

-- why a message that has no form is rejected
abbrev pub of_form : Formless → Rejection
of_form unknown_code = UnknownCode
of_form wrong_length = WrongLength

-- the grounds that a message of a known code and its length can meet
abbrev pub beyond_form : List Rejection
beyond_form = NotOpen ∷ BadPassword ∷ WrongCheckWord ∷ Unfit ∷ NotStored ∷ Overlap ∷ []

abbrev pub in_order : List Rejection
in_order = UnknownCode ∷ WrongLength ∷ beyond_form
