use Rattle.std.proofs.Common.{arith}
use Rattle.calendar.proofs.Days.{no-months, next-month, month-high}
use Rattle.calendar.proofs.dates.days_before_month.Goals as goal

pub loop-m-init : goal.loop-m-init
loop-m-init c = omega (arith, no-months c.args.year)

pub loop-m-preserved : goal.loop-m-preserved
loop-m-preserved c =
    omega (arith, next-month c.args.year c.loop-m.m c.loop-m.auto.m, month-high c.args.year c.loop-m.m, c.month_days.ensures)
