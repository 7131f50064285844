use Rattle.std.proofs.Common.{arith}
use Rattle.std.proofs.lemmas.Grind.{common_steps}
use Rattle.journal.proofs.Journal.append.Goals as goal

pub returns-clause-log : goal.returns-clause-log
returns-clause-log g c = λ w. grind (arith, common_steps)
