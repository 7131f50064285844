use Rattle.std.proofs.Common.{refl, arith}
use Rattle.wire.specs.declared.crc.table.TheConstants.{SHIFTED}
use Rattle.wire.specs.CheckWord.{shifted}
use Rattle.wire.proofs.CheckWord.{entry}
use Rattle.wire.proofs.crc.eight_shifts.Goals as goal

pub returns : goal.returns
unfolding shifted
returns c = entry SHIFTED refl c.args.top (omega arith)
