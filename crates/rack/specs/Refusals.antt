-- The numbers of the refusals that building a rack or a site can meet.
use Rattle.std.specs.Prelude.{ℕ}
use Rattle.rack.specs.declared.refusal.Refusal.{Refusal}
use Rattle.rack.specs.declared.refusal.Refusal.TheVariants.{ThirteenthSign, Unfit}

abbrev pub number : Refusal → ℕ
number ThirteenthSign = 0x50
number Unfit = 0x51
