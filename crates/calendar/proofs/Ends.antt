-- A second later, by the count. Assumes nothing.
use Rattle.std.proofs.Common.{◌≡◌, ℕ, ◌+◌, ◌-◌, ◌*◌, ◌<◌, ◌≤◌, min, true, ap, arith}
use Rattle.calendar.specs.Dates.{month_days, years_days, months_days}
use Rattle.calendar.specs.Following.{Date, date-is, time-is, month-low, by-next-day, by-next-second}
use Rattle.calendar.specs.Moments.{dated, timed, day_number, moment, last_moment, midnight, next_second}
use Rattle.calendar.specs.declared.date_time.DateTime.{DateTime}
use Rattle.calendar.proofs.Days.{next-month, next-year, no-months, to-december, years-closed}
use Rattle.calendar.proofs.Apart.{within, years-mono}

pub number-le : (t : DateTime) → Date t.year t.month t.day → day_number t ≤ 3652059
number-le t h =
    let a = within t.year t.month t.day h in
    let b = next-year t.year h.0.0 in
    let k = years-mono (t.year + 1 - 1) 9999 (omega arith) in
    omega (arith, years-closed 9999)

-- the arithmetic over numbers alone, which is all that omega should see
first : (n h m s : ℕ) → h < 24 → m < 60 → s < 59 → n ≤ 3652059
    → ((n * 24 + h) * 60 + m) * 60 + (s + 1) ≡ min (((n * 24 + h) * 60 + m) * 60 + s + 1) last_moment
first n h m s p q r l = omega arith

second : (n h m s : ℕ) → h < 24 → m < 59 → s < 60 → 59 ≤ s → n ≤ 3652059
    → ((n * 24 + h) * 60 + (m + 1)) * 60 + 0 ≡ min (((n * 24 + h) * 60 + m) * 60 + s + 1) last_moment
second n h m s p q r u l = omega arith

third : (n h m s : ℕ) → h < 23 → m < 60 → s < 60 → 59 ≤ m → 59 ≤ s → n ≤ 3652059
    → ((n * 24 + (h + 1)) * 60 + 0) * 60 + 0 ≡ min (((n * 24 + h) * 60 + m) * 60 + s + 1) last_moment
third n h m s p q r u v l = omega arith

fourth : (n k h m s : ℕ) → k ≡ n + 1 → k ≤ 3652059 → h < 24 → m < 60 → s < 60 → 23 ≤ h → 59 ≤ m → 59 ≤ s
    → ((k * 24 + 0) * 60 + 0) * 60 + 0 ≡ min (((n * 24 + h) * 60 + m) * 60 + s + 1) last_moment
fourth n k h m s e l p q r x y z = omega arith

last : (n h m s : ℕ) → n ≡ 3652059 → h < 24 → m < 60 → s < 60 → 23 ≤ h → 59 ≤ m → 59 ≤ s
    → ((n * 24 + h) * 60 + m) * 60 + s ≡ min (((n * 24 + h) * 60 + m) * 60 + s + 1) last_moment
last n h m s e p q r x y z = omega arith

-- the first day of the next month, and of the next year
month-on : (y m d : ℕ) → Date y m d → month_days y m ≤ d → years_days (y - 1) + (months_days y (m + 1 - 1) + 1) ≡ years_days (y - 1) + (months_days y (m - 1) + d) + 1
month-on y m d h l = let a = next-month y m h.1.0 in omega arith

year-end : (y m d : ℕ) → Date y m d → month_days y m ≤ d → 12 ≤ m → years_days (y + 1 - 1) ≡ years_days (y - 1) + (months_days y (m - 1) + d)
year-end y m d h l g =
    let e : m ≡ 12 = omega arith in
    let days = ap (month_days y) e in
    let before = ap (λ (k : ℕ). months_days y (k - 1)) e in
    omega (arith, next-year y h.0.0, to-december y)

Later : DateTime → DateTime → Type 0
Later t u = moment u ≡ min (moment t + 1) last_moment

pub next-later : (t : DateTime) → dated t ≡ true → timed t ≡ true → moment (next_second t) ≡ min (moment t + 1) last_moment
unfolding Later
next-later t d h =
    let e = date-is t.year t.month t.day d in
    let k = time-is t.hour t.minute t.second h in
    let n = number-le t e in
    by-next-second (Later t) t
    (λ a. first (day_number t) t.hour t.minute t.second k.0 k.1 a n)
    (λ a b. second (day_number t) t.hour t.minute t.second k.0 b k.2 a n)
    (λ a b c. third (day_number t) t.hour t.minute t.second c k.1 k.2 b a n)
    (λ a b c.
    let on : (x m y : ℕ) → Date y m x → day_number (midnight x m y) ≡ day_number t + 1 → Later t (midnight x m y) =
    λ x m y g f. fourth (day_number t) (day_number (midnight x m y)) t.hour t.minute t.second f (number-le (midnight x m y) g) k.0 k.1 k.2 c b a in
    by-next-day (Later t) t
    (λ l. on (t.day + 1) t.month t.year (e.0, e.1, (omega arith, omega arith)) (omega arith))
    (λ l m. on 1 (t.month + 1) t.year (e.0, (omega arith, omega arith), (omega arith, month-low t.year (t.month + 1))) (month-on t.year t.month t.day e l))
    (λ l m o.
    let z = year-end t.year t.month t.day e l m in
    let y = no-months (t.year + 1) in
    on 1 1 (t.year + 1) ((omega arith, omega arith), (omega arith, omega arith), (omega arith, month-low (t.year + 1) 1)) (omega arith))
    (λ l m o.
    let z = year-end t.year t.month t.day e l m in
    let w : t.year + 1 - 1 ≡ 9999 = omega arith in
    let v = ap years_days w in
    last (day_number t) t.hour t.minute t.second (omega (arith, years-closed 9999)) k.0 k.1 k.2 c b a))
