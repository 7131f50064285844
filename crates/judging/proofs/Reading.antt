-- What was read as a command has a known code and its length.
use Rattle.std.proofs.Common.{◌≡◌, false, refl}
use Rattle.commands.specs.declared.command.Command.{Command}
use Rattle.commands.specs.declared.command.Command.TheVariants.{StartSession}
use Rattle.commands.specs.Sent.{values_of}
use Rattle.judging.specs.Conditions.{asked, code_unknown, length_wrong}

pub has-form : (c : Command) → (code_unknown (asked (values_of c)) ≡ false) × (length_wrong (asked (values_of c)) ≡ false)
has-form StartSession = (refl, refl)
has-form _ = (refl, refl)
