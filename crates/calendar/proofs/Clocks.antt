-- When two clocks are one, and what a clock shows after a tick or a setting, for whoever holds one of them as a value. Assumes nothing.
use Rattle.std.proofs.Common.{◌≡◌, ℕ, Bool, true, false, cond, Ok, Err, Result, refl, subst, arith}
use Rattle.std.proofs.Math.Bool.{Bool-set}
use Rattle.calendar.specs.declared.date_time.Unfit.{Unfit}
use Rattle.calendar.specs.declared.date_time.Unfit.TheVariants.{Date, Time}
use Rattle.calendar.specs.Clocks.{ticked, chosen, set_to}
use Rattle.calendar.specs.Moments.{dated, timed, judged, moment, next_second}
use Rattle.calendar.specs.declared.date_time.DateTime.{DateTime}
use Rattle.calendar.specs.declared.clock.Clock.{Clock}
use Rattle.calendar.proofs.Apart.{told-apart}

-- clocks that show the same are equal: the invariant has one proof at most
pub same-shown : (a b : Clock) → a.shown ≡ b.shown → a ≡ b
same-shown a b e =
    subst (λ (t : DateTime). (d : dated t ≡ true) (h : timed t ≡ true) → ◌≡◌ {A = Clock} a (record { shown = t; date = d; time = h })) e
    (λ d h. λ i. record { shown = a.shown; date = Bool-set _ _ a.date d i; time = Bool-set _ _ a.time h i })
    b.date
    b.time

-- the count tells the clock
pub same-moment : (a b : Clock) → moment a.shown ≡ moment b.shown → a ≡ b
same-moment a b e = same-shown a b (told-apart a.shown b.shown a.date a.time b.date b.time e)

-- a tick shows the next second
pub ticked-shown : (c : Clock) → (ticked c).shown ≡ next_second c.shown
unfolding ticked
ticked-shown c = refl

-- the answer by the two tests
abbrev answer : Bool → Bool → Result (Unit {0}) Unfit
answer d h = cond d (cond h (Ok tt) (Err Time)) (Err Date)

fits : (c : Clock) (t : DateTime) (d h : Bool) (p : dated t ≡ d) (q : timed t ≡ h) → answer d h ≡ Ok tt → (chosen c t d h p q).shown ≡ t
unfolding chosen
fits c t true true p q x = refl
fits c t true false p q x = let z : ◌≡◌ {A = ℕ} 0 1 = cc in absurd (omega arith)
fits c t false h p q x = let z : ◌≡◌ {A = ℕ} 0 1 = cc in absurd (omega arith)

refused : (c : Clock) (t : DateTime) (d h : Bool) (p : dated t ≡ d) (q : timed t ≡ h) (e : Unfit) → answer d h ≡ Err e → chosen c t d h p q ≡ c
unfolding chosen
refused c t true true p q e x = let z : ◌≡◌ {A = ℕ} 0 1 = cc in absurd (omega arith)
refused c t true false p q e x = refl
refused c t false h p q e x = refl

-- a setting that fits shows what is given
pub set-shown : (c : Clock) (t : DateTime) → judged t ≡ Ok tt → (set_to t c).shown ≡ t
unfolding set_to
set-shown c t x = fits c t (dated t) (timed t) refl refl x

-- one that does not leaves the clock
pub set-refused : (c : Clock) (t : DateTime) (e : Unfit) → judged t ≡ Err e → set_to t c ≡ c
unfolding set_to
set-refused c t e x = refused c t (dated t) (timed t) refl refl e x
