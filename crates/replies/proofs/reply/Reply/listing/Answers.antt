use Rattle.replies.proofs.Filling.{cut_early}
use Rattle.replies.proofs.reply.Reply.listing.Goals as goal

pub returns : goal.returns
returns g c = simp (c.push_list.ensures, c.cut-reply.ensures, cut_early)
