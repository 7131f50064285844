use Rattle.std.proofs.Common.{append_assoc}
use Rattle.replies.specs.Readings.{readings_reply}
use Rattle.replies.proofs.Filling.{cut_early}
use Rattle.replies.proofs.reply.Reply.readings.Goals as goal

pub returns : goal.returns
unfolding readings_reply
returns c = simp (c.extend-2.ensures, c.extend.ensures, c.cut-reply.ensures, c.bytes.ensures, cut_early, append_assoc)
