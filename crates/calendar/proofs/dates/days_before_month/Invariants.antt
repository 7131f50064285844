use Rattle.std.proofs.Common.{◌≡◌, ◌-◌, ◌*◌, ◌≤◌}
use Rattle.calendar.specs.Dates.{months_days}
use Rattle.calendar.proofs.dates.days_before_month.Given as goal

abbrev pub invariant-loop-m : goal.invariant-loop-m
invariant-loop-m l = (l.days ≡ months_days l.year (l.m - 1)) × (l.days ≤ 31 * (l.m - 1))
