use Rattle.std.proofs.Common.{[], ◌∷◌, ◌∙◌, lit≤}
use Rattle.replies.specs.Logs.{fault_bytes, fault_log_reply}
use Rattle.replies.proofs.Listing.{whole_list}
use Rattle.replies.proofs.reply.Reply.fault_log.Goals as goal

pub returns : goal.returns
unfolding fault_log_reply
returns c = c.listing.ensures ∙ whole_list fault_bytes 768 11 20 (0x19 ∷ []) c.args.entries.now (λ _. lit≤ tt) (lit≤ tt)
