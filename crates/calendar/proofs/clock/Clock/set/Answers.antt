use Rattle.std.proofs.Common.{rules}
use Rattle.calendar.specs.Clocks.{chosen, set_to}
use Rattle.calendar.proofs.Clocks.{same-shown}
use Rattle.calendar.proofs.clock.Clock.set.Goals as goal

pub returns-in_err-judge-clause-state : goal.returns-in_err-judge-clause-state
unfolding chosen set_to
returns-in_err-judge-clause-state c = search rules

pub returns-clause-state : goal.returns-clause-state
unfolding chosen set_to
returns-clause-state c = same-shown _ _ (search rules)
