use Rattle.std.proofs.Common.{◌+◌, ◌*◌, ◌-◌, length, ap, ◌∙◌, arith}
use Rattle.std.proofs.lemmas.Slice.{take-put_mid}
use Rattle.wire.proofs.Writing.{in_digits-more}
use Rattle.wire.proofs.packet.writing.put_digits.Goals as goal

pub loop-i-preserved : goal.loop-i-preserved
loop-i-preserved c =
    let w = c.copy_from_slice.ensures.after ∙ c.digits_of.ensures.digits in
    let m = in_digits-more c.args.bytes.now c.loop-i.i c.loop-i-test.true in
    let t = take-put_mid (2 * c.loop-i.i) (2 * c.loop-i.i + 2 - 2 * c.loop-i.i) c.loop-i.out c.copy_from_slice.new.self (2 * (c.loop-i.i + 1)) (omega (arith, ap length w)) (omega arith) in
    cc
