use Rattle.std.proofs.Common.{sym, zero-le, arith}
use Rattle.analog.specs.Codes.{mark_from}
use Rattle.analog.proofs.Counts.{count_none, count-hit, count-miss}
use Rattle.analog.proofs.reading.marks_reached.Goals as goal
use Rattle.analog.proofs.reading.marks_reached.Goals.{then-first-k, else-first-k}

pub loop-k-init : goal.loop-k-init
loop-k-init c = (sym (count_none (mark_from c.args.first) c.args.x), zero-le)

pub loop-k-preserved : goal.loop-k-preserved
loop-k-preserved c =
    elim c.if-first-k.branch [
      | then-first-k w ↦ let e = count-hit (mark_from c.args.first) c.loop-k.k c.args.x w.if-first-k.true in (omega (arith, w.reached-is, e), omega (arith, w.reached-is))
      | else-first-k w ↦ let e = count-miss (mark_from c.args.first) c.loop-k.k c.args.x w.if-first-k.false in (omega (arith, w.reached-is, e), omega (arith, w.reached-is))
    ]
