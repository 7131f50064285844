use Rattle.std.proofs.Common.{[], ◌∷◌, ◌∙◌, lit≤}
use Rattle.replies.specs.Logs.{order_bytes, order_log_reply}
use Rattle.replies.proofs.Listing.{whole_list}
use Rattle.replies.proofs.reply.Reply.order_log.Goals as goal

pub returns : goal.returns
unfolding order_log_reply
returns c = c.listing.ensures ∙ whole_list order_bytes 768 3 64 (0xF5 ∷ []) c.args.entries.now (λ _. lit≤ tt) (lit≤ tt)
