-- The date and time that follow one that exists exist too. Assumes nothing.
use Rattle.std.specs.Prelude.{◌≡◌, ℕ, ◌+◌, ◌<◌, ◌≤◌, true, cond, ◌&&◌, ◌||◌, ◌==◌, nat_le, nat_lt, refl}
use Rattle.std.proofs.Common.{arith}
use Rattle.std.proofs.lemmas.Bool.{and_parts, and_from, leb-true, le-leb, ltb-true, ltb-false, lt-ltb, cond_both}
use Rattle.calendar.specs.Dates.{leap, month_days, date_exists, time_exists}
use Rattle.calendar.specs.Moments.{dated, timed, midnight, with_time, next_day, next_second}
use Rattle.calendar.specs.declared.date_time.DateTime.{DateTime}

-- the tests as orders
abbrev pub Date : ℕ → ℕ → ℕ → Type 0
Date y m d = ((1 ≤ y) × (y ≤ 9999)) × ((1 ≤ m) × (m ≤ 12)) × ((1 ≤ d) × (d ≤ month_days y m))

abbrev pub Time : ℕ → ℕ → ℕ → Type 0
Time h m s = (h < 24) × (m < 60) × (s < 60)

within : (a x b : ℕ) → (nat_le a x && nat_le x b) ≡ true → (a ≤ x) × (x ≤ b)
within a x b h = let p = and_parts (nat_le a x) (nat_le x b) h in (leb-true a x p.0, leb-true x b p.1)

from-within : (a x b : ℕ) → (a ≤ x) × (x ≤ b) → (nat_le a x && nat_le x b) ≡ true
from-within a x b h = and_from (nat_le a x) (nat_le x b) (le-leb a x h.0) (le-leb x b h.1)

pub date-is : (y m d : ℕ) → date_exists y m d ≡ true → Date y m d
date-is y m d h =
    let p = and_parts (nat_le 1 y && nat_le y 9999) ((nat_le 1 m && nat_le m 12) && (nat_le 1 d && nat_le d (month_days y m))) h in
    let q = and_parts (nat_le 1 m && nat_le m 12) (nat_le 1 d && nat_le d (month_days y m)) p.1 in
    (within 1 y 9999 p.0, within 1 m 12 q.0, within 1 d (month_days y m) q.1)

pub is-date : (y m d : ℕ) → Date y m d → date_exists y m d ≡ true
is-date y m d h =
    and_from (nat_le 1 y && nat_le y 9999) ((nat_le 1 m && nat_le m 12) && (nat_le 1 d && nat_le d (month_days y m))) (from-within 1 y 9999 h.0)
    (and_from (nat_le 1 m && nat_le m 12) (nat_le 1 d && nat_le d (month_days y m)) (from-within 1 m 12 h.1) (from-within 1 d (month_days y m) h.2))

pub time-is : (h m s : ℕ) → time_exists h m s ≡ true → Time h m s
time-is h m s e =
    let p = and_parts (nat_lt h 24) (nat_lt m 60 && nat_lt s 60) e in
    let q = and_parts (nat_lt m 60) (nat_lt s 60) p.1 in
    (ltb-true h 24 p.0, ltb-true m 60 q.0, ltb-true s 60 q.1)

pub is-time : (h m s : ℕ) → Time h m s → time_exists h m s ≡ true
is-time h m s t =
    and_from (nat_lt h 24) (nat_lt m 60 && nat_lt s 60) (lt-ltb h 24 t.0) (and_from (nat_lt m 60) (nat_lt s 60) (lt-ltb m 60 t.1) (lt-ltb s 60 t.2))

pub month-low : (y m : ℕ) → 1 ≤ month_days y m
month-low y m =
    cond_both (m == 2) (28 + cond (leap y) 1 0) (cond (m == 4 || (m == 6 || (m == 9 || m == 11))) 30 31) (λ n. 1 ≤ n) (λ _. omega arith)
    (λ _. cond_both (m == 4 || (m == 6 || (m == 9 || m == 11))) 30 31 (λ n. 1 ≤ n) (λ _. omega arith) (λ _. omega arith))

-- what holds of every way that the next second can come, holds of it
pub by-next-day : (P : DateTime → Type 0) (t : DateTime)
    → (t.day < month_days t.year t.month → P (midnight (t.day + 1) t.month t.year))
    → (month_days t.year t.month ≤ t.day → t.month < 12 → P (midnight 1 (t.month + 1) t.year))
    → (month_days t.year t.month ≤ t.day → 12 ≤ t.month → t.year < 9999 → P (midnight 1 1 (t.year + 1)))
    → (month_days t.year t.month ≤ t.day → 12 ≤ t.month → 9999 ≤ t.year → P t)
    → P (next_day t)
by-next-day P t a b c d =
    cond_both (nat_lt t.day (month_days t.year t.month)) (midnight (t.day + 1) t.month t.year) _ P
    (λ e. a (ltb-true t.day (month_days t.year t.month) e))
    (λ e. let l = ltb-false t.day (month_days t.year t.month) e in
    cond_both (nat_lt t.month 12) (midnight 1 (t.month + 1) t.year) _ P
    (λ f. b l (ltb-true t.month 12 f))
    (λ f. let m = ltb-false t.month 12 f in
    cond_both (nat_lt t.year 9999) (midnight 1 1 (t.year + 1)) t P (λ g. c l m (ltb-true t.year 9999 g)) (λ g. d l m (ltb-false t.year 9999 g))))

pub by-next-second : (P : DateTime → Type 0) (t : DateTime)
    → (t.second < 59 → P (with_time t t.hour t.minute (t.second + 1)))
    → (59 ≤ t.second → t.minute < 59 → P (with_time t t.hour (t.minute + 1) 0))
    → (59 ≤ t.second → 59 ≤ t.minute → t.hour < 23 → P (with_time t (t.hour + 1) 0 0))
    → (59 ≤ t.second → 59 ≤ t.minute → 23 ≤ t.hour → P (next_day t))
    → P (next_second t)
by-next-second P t a b c d =
    cond_both (nat_lt t.second 59) (with_time t t.hour t.minute (t.second + 1)) _ P
    (λ e. a (ltb-true t.second 59 e))
    (λ e. let l = ltb-false t.second 59 e in
    cond_both (nat_lt t.minute 59) (with_time t t.hour (t.minute + 1) 0) _ P
    (λ f. b l (ltb-true t.minute 59 f))
    (λ f. let m = ltb-false t.minute 59 f in
    cond_both (nat_lt t.hour 23) (with_time t (t.hour + 1) 0 0) (next_day t) P (λ g. c l m (ltb-true t.hour 23 g)) (λ g. d l m (ltb-false t.hour 23 g))))

Dated : DateTime → Type 0
Dated u = dated u ≡ true

Timed : DateTime → Type 0
Timed u = timed u ≡ true

pub next-dated : (t : DateTime) → dated t ≡ true → dated (next_second t) ≡ true
unfolding Dated
next-dated t h =
    let e = date-is t.year t.month t.day h in
    by-next-second Dated t (λ _. h) (λ _ _. h) (λ _ _ _. h)
    (λ _ _ _. by-next-day Dated t
    (λ l. is-date t.year t.month (t.day + 1) (e.0, e.1, (omega arith, omega arith)))
    (λ _ l. is-date t.year (t.month + 1) 1 (e.0, (omega arith, omega arith), (omega arith, month-low t.year (t.month + 1))))
    (λ _ _ l. is-date (t.year + 1) 1 1 ((omega arith, omega arith), (omega arith, omega arith), (omega arith, month-low (t.year + 1) 1)))
    (λ _ _ _. h))

pub next-timed : (t : DateTime) → timed t ≡ true → timed (next_second t) ≡ true
unfolding Timed
next-timed t h =
    let e = time-is t.hour t.minute t.second h in
    by-next-second Timed t
    (λ l. is-time t.hour t.minute (t.second + 1) (e.0, e.1, omega arith))
    (λ _ l. is-time t.hour (t.minute + 1) 0 (e.0, omega arith, omega arith))
    (λ _ _ l. is-time (t.hour + 1) 0 0 (omega arith, omega arith, omega arith))
    (λ _ _ _. by-next-day Timed t (λ _. refl) (λ _ _. refl) (λ _ _ _. refl) (λ _ _ _. h))
