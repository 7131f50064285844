use Rattle.std.proofs.Common.{◌-◌}
use Rattle.calendar.proofs.Days.{years-difference}
use Rattle.calendar.proofs.dates.days_before_year.Goals as goal

pub returns-clause-value : goal.returns-clause-value
returns-clause-value c = cc (years-difference (c.from-years.result - 1))
