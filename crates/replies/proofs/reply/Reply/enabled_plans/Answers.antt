use Rattle.std.proofs.Common.{[], ◌∷◌, ◌∙◌, lit≤}
use Rattle.replies.specs.Plans.{enabled_plan_bytes, enabled_plans_reply}
use Rattle.replies.proofs.Listing.{whole_list}
use Rattle.replies.proofs.reply.Reply.enabled_plans.Goals as goal

pub returns : goal.returns
unfolding enabled_plans_reply
returns c = c.listing.ensures ∙ whole_list enabled_plan_bytes 768 2 96 (0x13 ∷ []) c.args.plans.now (λ _. lit≤ tt) (lit≤ tt)
