use Rattle.std.proofs.Common.{◌∙◌, arith}
use Rattle.calendar.proofs.Clocks.{same-moment}
use Rattle.calendar.proofs.clock.Clock.count.Goals as goal

pub returns-clause-tells : goal.returns-clause-tells
returns-clause-tells c = λ other f. same-moment other c.args.self.now (f ∙ omega arith)
