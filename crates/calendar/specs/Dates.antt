-- The Gregorian calendar, by the numbers of a year, a month and a day. Assumes nothing.
use Rattle.std.specs.Prelude.{ℕ, zero, suc, ◌+◌, ◌%◌, Bool, cond, not, ◌&&◌, ◌||◌, ◌==◌, nat_le, nat_lt}

abbrev pub leap : ℕ → Bool
leap y = y % 4 == 0 && (not (y % 100 == 0) || y % 400 == 0)

-- how many days the month m of the year y has
abbrev pub month_days : ℕ → ℕ → ℕ
month_days y m = cond (m == 2) (28 + cond (leap y) 1 0) (cond (m == 4 || (m == 6 || (m == 9 || m == 11))) 30 31)

-- the date is one of the years 1 to 9999
abbrev pub date_exists : ℕ → ℕ → ℕ → Bool
date_exists y m d = (nat_le 1 y && nat_le y 9999) && ((nat_le 1 m && nat_le m 12) && (nat_le 1 d && nat_le d (month_days y m)))

abbrev pub time_exists : ℕ → ℕ → ℕ → Bool
time_exists h m s = nat_lt h 24 && (nat_lt m 60 && nat_lt s 60)

-- how many days the first n years have, from the year 1
unfoldable pub years_days : ℕ → ℕ
years_days zero = 0
years_days (suc n) = years_days n + (365 + cond (leap (suc n)) 1 0)

-- how many days the first n months of the year y have
unfoldable pub months_days : ℕ → ℕ → ℕ
months_days y zero = 0
months_days y (suc n) = months_days y n + month_days y (suc n)
