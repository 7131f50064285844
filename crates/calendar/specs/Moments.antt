-- What a date and time mean: a count of days and one of seconds; and the date and time that come next. Assumes nothing.
use Rattle.std.specs.Prelude.{◌≡◌, ℕ, ◌+◌, ◌-◌, ◌*◌, ◌%◌, Bool, cond, Ok, Err, Result, nat_lt}
use Rattle.calendar.specs.Dates.{month_days, date_exists, time_exists, years_days, months_days}
use Rattle.calendar.specs.declared.date_time.DateTime.{DateTime}
use Rattle.calendar.specs.declared.date_time.Unfit.{Unfit}
use Rattle.calendar.specs.declared.date_time.Unfit.TheVariants.{Date, Time}

-- the date exists
abbrev pub dated : DateTime → Bool
dated t = date_exists t.year t.month t.day

-- the time of day exists
abbrev pub timed : DateTime → Bool
timed t = time_exists t.hour t.minute t.second

-- whether a clock can show it
abbrev pub judged : DateTime → Result (Unit {0}) Unfit
judged t = cond (dated t) (cond (timed t) (Ok tt) (Err Time)) (Err Date)

-- the number of the rejection
abbrev pub unfit_number : Unfit → ℕ
unfit_number Date = 0x44
unfit_number Time = 0x44

abbrev pub OnDate : ℕ → ℕ → ℕ → DateTime → Type 0
OnDate d m y t = (t.day ≡ d) × (t.month ≡ m) × (t.year ≡ y)

-- the number of the day: 1 January of the year 1, a Monday, is day 1, so day 0 is a Sunday
abbrev pub day_number : DateTime → ℕ
day_number t = years_days (t.year - 1) + (months_days t.year (t.month - 1) + t.day)

-- how many seconds have passed since the beginning of day 0
abbrev pub moment : DateTime → ℕ
moment t = ((day_number t * 24 + t.hour) * 60 + t.minute) * 60 + t.second

-- where a clock stays
abbrev pub last_second : DateTime
last_second = record { day = 31; month = 12; year = 9999; hour = 23; minute = 59; second = 59 }

-- its count; 31 December 9999 is day 3652059
abbrev pub last_moment : ℕ
last_moment = ((3652059 * 24 + 23) * 60 + 59) * 60 + 59

abbrev pub minute_of_day : DateTime → ℕ
minute_of_day t = t.hour * 60 + t.minute

abbrev pub second_of_day : DateTime → ℕ
second_of_day t = minute_of_day t * 60 + t.second

-- from midnight between Saturday and Sunday
abbrev pub minute_of_week : DateTime → ℕ
minute_of_week t = day_number t % 7 * 1440 + minute_of_day t

-- where a clock starts
abbrev pub start : DateTime
start = record { day = 1; month = 1; year = 2000; hour = 0; minute = 0; second = 0 }

abbrev pub midnight : ℕ → ℕ → ℕ → DateTime
midnight d m y = record { day = d; month = m; year = y; hour = 0; minute = 0; second = 0 }

-- the first second of the next day; 31 December 9999 has none
abbrev pub next_day : DateTime → DateTime
next_day t =
    cond (nat_lt t.day (month_days t.year t.month)) (midnight (t.day + 1) t.month t.year)
    (cond (nat_lt t.month 12) (midnight 1 (t.month + 1) t.year)
    (cond (nat_lt t.year 9999) (midnight 1 1 (t.year + 1)) t))

abbrev pub with_time : DateTime → ℕ → ℕ → ℕ → DateTime
with_time t h m s = record { day = t.day; month = t.month; year = t.year; hour = h; minute = m; second = s }

abbrev pub next_second : DateTime → DateTime
next_second t =
    cond (nat_lt t.second 59) (with_time t t.hour t.minute (t.second + 1))
    (cond (nat_lt t.minute 59) (with_time t t.hour (t.minute + 1) 0)
    (cond (nat_lt t.hour 23) (with_time t (t.hour + 1) 0 0) (next_day t)))
