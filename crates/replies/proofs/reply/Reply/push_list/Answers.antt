use Rattle.replies.proofs.Listing.{entry_more}
use Rattle.replies.proofs.reply.Reply.push_list.Goals as goal

pub loop-each-preserved : goal.loop-each-preserved
loop-each-preserved g c =
    entry_more g.T.Entry.laid 768 _ _ c.loop-each.each-index c.each-item.result _ _ c.loop-each-test.true c.each-item.is c.loop-each.invariant c.lay.ensures
