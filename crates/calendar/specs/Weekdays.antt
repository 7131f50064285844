-- The number of a weekday, which is also its bit in a plan's days. Assumes nothing.
use Rattle.std.specs.Prelude.{ℕ}
use Rattle.calendar.specs.declared.weekday.Weekday.{Weekday}
use Rattle.calendar.specs.declared.weekday.Weekday.TheVariants.{Sunday, Monday, Tuesday, Wednesday, Thursday, Friday, Saturday}

abbrev pub weekday_number : Weekday → ℕ
weekday_number Sunday = 0
weekday_number Monday = 1
weekday_number Tuesday = 2
weekday_number Wednesday = 3
weekday_number Thursday = 4
weekday_number Friday = 5
weekday_number Saturday = 6
