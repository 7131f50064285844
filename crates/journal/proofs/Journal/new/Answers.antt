use Rattle.journal.proofs.Alike.{alike}
use Rattle.journal.proofs.Journal.new.Goals as goal

pub returns-clause-alike : goal.returns-clause-alike
returns-clause-alike g c = alike
