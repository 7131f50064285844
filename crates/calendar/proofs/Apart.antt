-- Different dates have different numbers. Assumes nothing.
use Rattle.std.proofs.Common.{◌≡◌, ℕ, zero, suc, ◌+◌, ◌-◌, ◌*◌, ◌<◌, ◌≤◌, true, cond, sym, ap, subst, inl, inr, le_refl, arith}
use Rattle.std.proofs.lemmas.Bool.{cases_eq, cases_order}
use Rattle.calendar.specs.Dates.{leap, years_days, months_days}
use Rattle.calendar.specs.Following.{Date, Time, date-is, time-is}
use Rattle.calendar.specs.Moments.{day_number, moment, dated, timed}
use Rattle.calendar.specs.declared.date_time.DateTime.{DateTime}
use Rattle.calendar.proofs.Days.{next-month, next-year, to-december}

-- what falls at no step never falls
mono : (f : ℕ → ℕ) → ((k : ℕ) → f k ≤ f (suc k)) → (n k : ℕ) → n ≤ k → f n ≤ f k
mono f up n zero h = let e : n ≡ 0 = omega arith in rw e (le_refl (f 0))
mono f up n (suc k) h =
    elim (cases_eq n (suc k)) [
      | inl e ↦ rw e (le_refl (f (suc k)))
      | inr d ↦ omega (arith, up k, mono f up n k (omega arith))
    ]

pub years-mono : (n k : ℕ) → n ≤ k → years_days n ≤ years_days k
unfolding years_days
years-mono n k h = mono years_days (λ j. omega arith) n k h

months-mono : (y n k : ℕ) → n ≤ k → months_days y n ≤ months_days y k
unfolding months_days
months-mono y n k h = mono (months_days y) (λ j. omega arith) n k h

-- a date's place in its year
pub within : (y m d : ℕ) → Date y m d → months_days y (m - 1) + d ≤ 365 + cond (leap y) 1 0
within y m d h =
    let a = next-month y m h.1.0 in
    let b = months-mono y (m + 1 - 1) 12 (omega arith) in
    let c = next-month y 12 (omega arith) in
    omega (arith, a, b, c, to-december y)

later-year : (y m d y' m' d' : ℕ) → Date y m d → Date y' m' d' → y < y'
    → years_days (y - 1) + (months_days y (m - 1) + d) < years_days (y' - 1) + (months_days y' (m' - 1) + d')
later-year y m d y' m' d' h h' l =
    let a = within y m d h in
    let b = next-year y h.0.0 in
    let c = years-mono (y + 1 - 1) (y' - 1) (omega arith) in
    omega arith

later-month : (y m d m' d' : ℕ) → Date y m d → Date y m' d' → m < m' → months_days y (m - 1) + d < months_days y (m' - 1) + d'
later-month y m d m' d' h h' l =
    let a = next-month y m h.1.0 in
    let b = months-mono y (m + 1 - 1) (m' - 1) (omega arith) in
    omega arith

in-year : (y m d m' d' : ℕ) → Date y m d → Date y m' d' → months_days y (m - 1) + d ≡ months_days y (m' - 1) + d' → (m ≡ m') × (d ≡ d')
in-year y m d m' d' h h' e =
    elim (cases_order m m') [
      | inl q ↦ let z = ap (λ (k : ℕ). months_days y (k - 1)) q in (q, omega (arith, z))
      | inr (inl l) ↦ let z = later-month y m d m' d' h h' l in absurd (omega arith)
      | inr (inr l) ↦ let z = later-month y m' d' m d h' h l in absurd (omega arith)
    ]

pub same-date : (y m d y' m' d' : ℕ) → Date y m d → Date y' m' d'
    → years_days (y - 1) + (months_days y (m - 1) + d) ≡ years_days (y' - 1) + (months_days y' (m' - 1) + d') → (y ≡ y') × (m ≡ m') × (d ≡ d')
same-date y m d y' m' d' h h' e =
    elim (cases_order y y') [
      | inl q ↦
          let P : ℕ → Type 0 = λ k. Date k m' d' × (years_days (y - 1) + (months_days y (m - 1) + d) ≡ years_days (k - 1) + (months_days k (m' - 1) + d')) in
          let t = subst P (sym q) (h', e) in
          let r = in-year y m d m' d' h t.0 (omega (arith, t.1)) in
          (q, r.0, r.1)
      | inr (inl l) ↦ let z = later-year y m d y' m' d' h h' l in absurd (omega arith)
      | inr (inr l) ↦ let z = later-year y' m' d' y m d h' h l in absurd (omega arith)
    ]

pub same-time : (n h m s n' h' m' s' : ℕ) → Time h m s → Time h' m' s' → ((n * 24 + h) * 60 + m) * 60 + s ≡ ((n' * 24 + h') * 60 + m') * 60 + s'
    → (n ≡ n') × (h ≡ h') × (m ≡ m') × (s ≡ s')
same-time n h m s n' h' m' s' i j e = (omega arith, omega arith, omega arith, omega arith)

-- the count tells the date and the time
pub told-apart : (a b : DateTime) → dated a ≡ true → timed a ≡ true → dated b ≡ true → timed b ≡ true → moment a ≡ moment b → a ≡ b
told-apart a b p q r s e =
    let t =
    same-time (day_number a) a.hour a.minute a.second (day_number b) b.hour b.minute b.second
    (time-is a.hour a.minute a.second q)
    (time-is b.hour b.minute b.second s)
    e in
    let d =
    same-date a.year a.month a.day b.year b.month b.day
    (date-is a.year a.month a.day p)
    (date-is b.year b.month b.day r)
    t.0 in
    λ i. record { day = d.2 i; month = d.1 i; year = d.0 i; hour = t.1 i; minute = t.2 i; second = t.3 i }
