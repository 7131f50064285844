use Rattle.std.proofs.Common.{arith, rules, ◌≡◌, get_or, None, sym, ◌∙◌}
use Rattle.groups.proofs.Enabling.{picked, pick_more}
use Rattle.groups.proofs.plans.EnabledPlans.next_above.Goals as goal
use borrow.Author.Tests.{tests}

pub loop-slot-preserved : goal.loop-slot-preserved
loop-slot-preserved c =
    let e : c.match-slot.least ≡ picked c.loop-slot.least (get_or c.args.self.now.slots c.loop-slot.slot-index None) c.args.number = search (rules, tests) in
    rw e (sym (pick_more c.loop-slot.least c.args.self.now.slots c.loop-slot.slot-index c.args.number (omega arith)) ∙ c.loop-slot.invariant)
