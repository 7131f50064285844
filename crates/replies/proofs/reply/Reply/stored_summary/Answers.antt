use Rattle.std.proofs.Common.{arith}
use Rattle.std.proofs.lemmas.List.{take_all}
use Rattle.replies.specs.Stored.{stored_summary_reply}
use Rattle.replies.proofs.Filling.{cut_early}
use Rattle.replies.proofs.reply.Reply.stored_summary.Goals as goal

pub returns : goal.returns
unfolding stored_summary_reply
returns c = simp (c.extend.ensures, c.cut-reply.ensures, cut_early) (take_all 768 (stored_summary_reply c.args.bits.now) (omega arith))
