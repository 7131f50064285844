use Rattle.std.proofs.Common.{rules}
use Rattle.groups.specs.Due.{due_of}
use Rattle.groups.proofs.Only.{any_order}
use Rattle.groups.proofs.group.GroupRecord.due.Goals as goal

pub returns-clause-order : goal.returns-clause-order
unfolding due_of
returns-clause-order c = any_order c.args.store.now c.args.clock.now.shown c.args.self.now _ (search rules)
