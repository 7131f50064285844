use Rattle.std.proofs.Common.{◌≡◌, ◌*◌, ◌/◌, get_or, ap, ◌∙◌, arith}
use lib.Bits.{bit_xor}
use Rattle.wire.specs.CheckWord.{shifts}
use Rattle.wire.proofs.CheckWord.{by-table}
use Rattle.wire.proofs.crc.feed.Goals as goal

pub returns : goal.returns
returns c =
    let top : get_or c.to_be_bytes.result 0 0 ≡ c.args.register / 256 = ap (λ bs. get_or bs 0 0) c.to_be_bytes.ensures ∙ omega arith in
    by-table c.args.register c.args.byte c.eight_shifts.result (omega arith) (omega arith) (c.eight_shifts.ensures ∙ ap (λ t. shifts 8 (bit_xor t c.args.byte * 256)) top)
