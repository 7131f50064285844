use Rattle.std.proofs.Common.{rules}
use Rattle.groups.proofs.Keeping.{stays_apart}
use Rattle.groups.proofs.group.GroupRecord.obey.Goals as goal

pub returns-in-EnablePlan-default-clause-apart : goal.returns-in-EnablePlan-default-clause-apart
returns-in-EnablePlan-default-clause-apart c = stays_apart c.args.self.now c.args.order c.args.operand c.enable_plan.new.self (search rules)

pub returns-in-DisablePlan-default-clause-apart : goal.returns-in-DisablePlan-default-clause-apart
returns-in-DisablePlan-default-clause-apart c = stays_apart c.args.self.now c.args.order c.args.operand c.disable_plan.new.self (search rules)
