use Rattle.std.proofs.Common.{arith}
use Rattle.records.proofs.Laying.{three_laid}
use Rattle.records.proofs.writing.lay_parts.Goals as goal

pub returns-clause-bytes : goal.returns-clause-bytes
returns-clause-bytes c =
    three_laid c.args.out.now c.args.head.now c.args.body.now c.args.tail.now c.copy_from_slice.new.self c.copy_from_slice-2.new.self c.copy_from_slice-3.new.self
    _ _ c.copy_from_slice.ensures.after c.copy_from_slice-2.ensures.after c.copy_from_slice-3.ensures.after (omega arith) (omega arith) (omega (arith, c.if-out-end.false))
