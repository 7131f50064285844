use Rattle.std.proofs.Common.{length}
use Rattle.records.specs.Stores.{frame_header, message_header, plan_header}
use Rattle.records.proofs.Keeping.{none_numbered}
use Rattle.records.proofs.store.Store.empty.Goals as goal

pub returns-clause-lawful : goal.returns-clause-lawful
returns-clause-lawful c = (
  rw c.clear.ensures (none_numbered frame_header (length c.args.self.now.frames)),
  rw c.clear-2.ensures (none_numbered message_header (length c.args.self.now.messages)),
  rw c.clear-3.ensures (none_numbered plan_header (length c.args.self.now.plans)),
)
