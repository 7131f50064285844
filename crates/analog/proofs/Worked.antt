-- Worked codes, which antt computes. Assumes nothing.
use Rattle.std.proofs.Common.{refl}
use lib.Ieee.{mul, le, div}
use Rattle.analog.specs.Codes.{count, WorkedVolts}

pub worked-volts : WorkedVolts
unfolding mul le div count
worked-volts = (refl, refl, refl)
