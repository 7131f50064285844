use Rattle.std.proofs.Common.{rules}
use Rattle.records.specs.Plans.{shares}
use Rattle.records.proofs.Sharing.{shares_meaning}
use Rattle.records.proofs.plan.Plan.shares_minute.Goals as goal

pub returns-then-common_day-clause-meaning : goal.returns-then-common_day-clause-meaning
unfolding shares
returns-then-common_day-clause-meaning c = shares_meaning c.args.self.now c.args.other.now _ (search rules)

pub returns-else-common_day-clause-meaning : goal.returns-else-common_day-clause-meaning
unfolding shares
returns-else-common_day-clause-meaning c = shares_meaning c.args.self.now c.args.other.now _ (search rules)
