use Rattle.std.proofs.Common.{◌≡◌}
use lib.Ieee.{of_bits, mul, le, div}
use Rattle.analog.specs.Codes.{count}
use Rattle.analog.proofs.Worked.{worked-volts}
use Rattle.analog.proofs.reading.worked_volts.Goals as goal

pub returns : goal.returns
unfolding of_bits mul le div count
returns c =
    let a : c.code.result ≡ 3 = c.code.ensures.value in
    let b : c.code-2.result ≡ 254 = c.code-2.ensures.value in
    let d : c.code-3.result ≡ 255 = c.code-3.ensures.value in
    record { codes = cc; stand = worked-volts }
