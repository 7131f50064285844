use Rattle.std.proofs.Common.{arith}
use Rattle.wire.proofs.Writing.{filled}
use Rattle.wire.proofs.packet.writing.fill.Goals as goal

pub returns-clause-bytes : goal.returns-clause-bytes
returns-clause-bytes c =
    filled c.args.out.now c.args.message.now c.copy_from_slice.new.self c.put_digits.new.out c.copy_from_slice-2.new.self c.args.number c.args.address _ _
    (rw (c.digits_of.ensures.digits, c.digits_of-2.ensures.digits) at c.copy_from_slice.ensures.after) c.put_digits.ensures
    (rw (c.word_digits.ensures, c.check_word.ensures.word) at c.copy_from_slice-2.ensures.after) (omega arith) (omega arith)
