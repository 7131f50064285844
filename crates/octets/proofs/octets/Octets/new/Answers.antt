use Rattle.octets.proofs.Alike.{alike}
use Rattle.octets.proofs.octets.Octets.new.Goals as goal

pub returns-clause-alike : goal.returns-clause-alike
returns-clause-alike g c = alike
