use Rattle.std.proofs.Common.{◌≡◌, ◌∙◌}
use lib.Ieee.{of_bits, binary32}
use Rattle.analog.specs.Codes.{mark_from, volt_mark, tenfold, volts_code}
use Rattle.analog.proofs.Counts.{count_same}
use Rattle.analog.proofs.Marks.{volt-marks}
use Rattle.analog.proofs.Accuracy.{near}
use Rattle.analog.proofs.reading.volts_code.Goals as goal

pub returns : goal.returns
unfolding of_bits
returns c =
    let e : c.marks_reached.result ≡ volts_code c.args.volts = c.marks_reached.ensures ∙ count_same (mark_from (of_bits binary32 0x3f000000)) volt_mark 255 (tenfold c.args.volts) volt-marks in
    record { value = e; near = near c.marks_reached.result c.args.volts e }
