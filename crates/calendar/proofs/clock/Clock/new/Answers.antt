use Rattle.std.proofs.Common.{arith}
use Rattle.calendar.proofs.Days.{years-closed, no-months}
use Rattle.calendar.proofs.clock.Clock.new.Goals as goal

pub returns-clause-saturday : goal.returns-clause-saturday
returns-clause-saturday c = omega (arith, years-closed 1999, no-months 2000)
