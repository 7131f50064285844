-- The numbers of the refusals that a message's form can meet.
use Rattle.std.specs.Prelude.{ℕ}
use Rattle.commands.specs.declared.rejection.Rejection.{Rejection}
use Rattle.commands.specs.declared.rejection.Rejection.TheVariants.{UnknownCode, WrongLength}

abbrev pub number : Rejection → ℕ
number UnknownCode = 0x08
number WrongLength = 0x41
