use Rattle.records.specs.Stores.{frame_header, message_header, plan_header}
use Rattle.records.proofs.Keeping.{none_numbered}
use Rattle.records.proofs.store.Store.new.Goals as goal

pub returns-clause-lawful : goal.returns-clause-lawful
returns-clause-lawful c = (none_numbered frame_header 255, none_numbered message_header 255, none_numbered plan_header 255)
