use Rattle.wire.proofs.CheckWord.{example}
use Rattle.wire.proofs.crc.check_word.Goals as goal

pub returns-clause-example : goal.returns-clause-example
returns-clause-example c = example
