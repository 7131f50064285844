-- The day count goes up by one from each date to the next. Assumes nothing.
use Rattle.std.proofs.Common.{◌≡◌, ℕ, zero, suc, ◌+◌, ◌-◌, ◌*◌, ◌/◌, ◌≤◌, cond, refl, arith}
use Rattle.std.proofs.lemmas.Bool.Decides.{nat_tests}
use Rattle.calendar.specs.Dates.{leap, month_days, years_days, months_days}

pub next-month : (y m : ℕ) → 1 ≤ m → months_days y (m + 1 - 1) ≡ months_days y (m - 1) + month_days y m
unfolding months_days
next-month y zero h = absurd (omega arith)
next-month y (suc n) h =
    let a : suc n + 1 - 1 ≡ suc n = omega arith in
    let b : suc n - 1 ≡ n = omega arith in
    rw (a, b)

pub next-year : (y : ℕ) → 1 ≤ y → years_days (y + 1 - 1) ≡ years_days (y - 1) + (365 + cond (leap y) 1 0)
unfolding years_days
next-year zero h = absurd (omega arith)
next-year (suc n) h =
    let a : suc n + 1 - 1 ≡ suc n = omega arith in
    let b : suc n - 1 ≡ n = omega arith in
    rw (a, b)

pub to-december : (y : ℕ) → months_days y 11 ≡ 334 + cond (leap y) 1 0
unfolding months_days
to-december y = omega arith

pub no-months : (y : ℕ) → months_days y 0 ≡ 0
unfolding months_days
no-months y = refl

-- the closed form
pub years-closed : (n : ℕ) → years_days n + n / 100 ≡ 365 * n + n / 4 + n / 400
unfolding years_days
years-closed zero = refl
years-closed (suc n) = let i = years-closed n in grind (arith, nat_tests, i)

pub month-high : (y m : ℕ) → month_days y m ≤ 31
month-high y m = grind (arith, nat_tests)

-- with the quotients as unknowns, since omega splits too often at three of them
difference : (n a b d x : ℕ) → x + b ≡ 365 * n + a + d → b ≤ a → 365 * n + a - b + d ≡ x
difference n a b d x e h = omega arith

fewer : (n : ℕ) → n / 100 ≤ n / 4
fewer n = omega arith

pub years-difference : (n : ℕ) → 365 * n + n / 4 - n / 100 + n / 400 ≡ years_days n
years-difference n = difference n (n / 4) (n / 100) (n / 400) (years_days n) (years-closed n) (fewer n)
