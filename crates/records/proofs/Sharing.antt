-- What it means that entries and plans share a minute.
use Rattle.std.proofs.Common.{◌≡◌, ℕ, zero, suc, ◌<◌, max, Bool, true, false, ◌||◌, ◌&&◌, ◌⊎◌, ltb, List, [], ◌∷◌, get_or, is_some, Some, None, Decides, Option, sym, refl, ap, ◌∙◌, inl, inr, ⊎_elim, arith}
use Rattle.std.proofs.lemmas.Bool.{and_parts, and_from, ltb-true}
use Rattle.std.proofs.lemmas.Bool.Decides.{nat_tests}
use Rattle.std.proofs.lemmas.List.Folds.{Any-from_list_any, list_any-from_Any, list_any_at}
use Rattle.std.proofs.lemmas.List.FromFn.{get_or-range_with_len}
use Rattle.std.specs.List.{find, list_any, range_with_len}
use Rattle.records.specs.declared.plan.Entry.{Entry}
use Rattle.records.specs.declared.plan.Plan.{Plan}
use Rattle.records.specs.Plans.{covers, covered, filled, runs_on, entry_at, meets, meets_any, clashing, any_meet, both_run, common_day, shares, Overlapping, SharesMinute}

-- two entries that meet have the later start in common
meets_at : (a b : Entry) → meets a b ≡ true → (covers a (max a.start b.start) ≡ true) × (covers b (max a.start b.start) ≡ true)
meets_at a b h = (grind (arith, nat_tests), grind (arith, nat_tests))

meets-from : (a b : Entry) (m : ℕ) → covers a m ≡ true → covers b m ≡ true → meets a b ≡ true
meets-from a b m p q = grind (arith, nat_tests)

-- whether some entry of a list covers a minute
abbrev At : List (Option Entry) → ℕ → Type 0
At xs m = list_any (λ e. covers e m) (filled xs) ≡ true

found : {X : Type 0} (p : X → Bool) (xs : List X) → is_some (find p xs) ≡ list_any p xs
found p [] = refl
found p (x ∷ xs) = let e = found p xs in grind (arith, nat_tests)

meets_any-at : (a : Entry) (ys : List (Option Entry)) → meets_any a ys ≡ true → (m : ℕ) × ((covers a m ≡ true) × At ys m)
meets_any-at a ys h =
    let p = Any-from_list_any (λ b. meets a b) (filled ys) h in
    let m = meets_at a p.1 p.4 in
    (max a.start p.1.start, (m.0, list_any-from_Any (λ e. covers e (max a.start p.1.start)) (filled ys) (p.0, p.1, p.2, p.3, m.1)))

meets_any-from : (a : Entry) (ys : List (Option Entry)) (m : ℕ) → covers a m ≡ true → At ys m → meets_any a ys ≡ true
meets_any-from a ys m h t =
    let p = Any-from_list_any (λ e. covers e m) (filled ys) t in
    list_any-from_Any (λ b. meets a b) (filled ys) (p.0, p.1, p.2, p.3, meets-from a p.1 m h p.4)

either : (a b : Bool) → (a || b) ≡ true → (a ≡ true) ⊎ (b ≡ true)
either true b h = inl refl
either false b h = inr h

first : (a b : Bool) → a ≡ true → (a || b) ≡ true
first true b h = refl
first false b h = cc

second : (a b : Bool) → b ≡ true → (a || b) ≡ true
second true b h = refl
second false b h = h

-- where an entry of a list covers a minute
place : (xs : List (Option Entry)) (m : ℕ) → At xs m → (j : ℕ) × (covered (get_or xs j None) m ≡ true)
place [] m h = cc
place (None ∷ xs) m h = let p = place xs m h in (suc p.0, p.1)
place (Some e ∷ xs) m h = ⊎_elim (λ t. (0, t)) (λ t. let p = place xs m t in (suc p.0, p.1)) (either (covers e m) (list_any (λ x. covers x m) (filled xs)) h)

at_place : (xs : List (Option Entry)) (j m : ℕ) → covered (get_or xs j None) m ≡ true → At xs m
at_place [] j m h = cc
at_place (None ∷ xs) zero m h = cc
at_place (None ∷ xs) (suc j) m h = at_place xs j m h
at_place (Some e ∷ xs) zero m h = first (covers e m) _ h
at_place (Some e ∷ xs) (suc j) m h = second (covers e m) _ (at_place xs j m h)

later : (xs : List (Option Entry)) (x : Option Entry) → Overlapping xs → Overlapping (x ∷ xs)
later xs x p = (suc p.0, (suc p.1.0, (p.1.1.0, ((omega (arith, p.1.1.1.0)), p.1.1.1.1))))

clashing-at : (xs : List (Option Entry)) → clashing xs ≡ true → Overlapping xs
clashing-at [] h = cc
clashing-at (None ∷ xs) h = later xs None (clashing-at xs h)
clashing-at (Some e ∷ xs) h = ⊎_elim
    (λ t. let p = meets_any-at e xs t in let j = place xs p.0 p.1.1 in
    (0, (suc j.0, (p.0, ((omega arith), (p.1.0, j.1))))))
    (λ t. later xs (Some e) (clashing-at xs t))
    (either (meets_any e xs) (clashing xs) h)

clashing-from : (xs : List (Option Entry)) (i j m : ℕ) → i < j → covered (get_or xs i None) m ≡ true → covered (get_or xs j None) m ≡ true → clashing xs ≡ true
clashing-from [] i j m l p q = cc
clashing-from (x ∷ xs) i zero m l p q = absurd (omega arith)
clashing-from (None ∷ xs) zero (suc j) m l p q = cc
clashing-from (None ∷ xs) (suc i) (suc j) m l p q = clashing-from xs i j m (omega arith) p q
clashing-from (Some e ∷ xs) zero (suc j) m l p q = first (meets_any e xs) (clashing xs) (meets_any-from e xs m p (at_place xs j m q))
clashing-from (Some e ∷ xs) (suc i) (suc j) m l p q = second (meets_any e xs) (clashing xs) (clashing-from xs i j m (omega arith) p q)

pub clashing_meaning : (xs : List (Option Entry)) → Decides (clashing xs) (Overlapping xs)
clashing_meaning xs = (clashing-at xs, λ s. clashing-from xs s.0 s.1.0 s.1.1.0 s.1.1.1.0 s.1.1.1.1.0 s.1.1.1.1.1)

-- what is due on a day that a plan runs on
due : (p : Plan) (w m : ℕ) → is_some (entry_at p w m) ≡ (runs_on p.days w && list_any (λ e. covers e m) (filled p.entries))
unfolding entry_at
due p w m = let e = found (λ e. covers e m) (filled p.entries) in grind (arith, nat_tests)

any_meet-at : (ys xs : List (Option Entry)) → any_meet ys xs ≡ true → (m : ℕ) × (At xs m × At ys m)
any_meet-at ys xs h =
    let p = Any-from_list_any (λ a. meets_any a ys) (filled xs) h in
    let m = meets_any-at p.1 ys p.4 in
    (m.0, (list_any-from_Any (λ e. covers e m.0) (filled xs) (p.0, p.1, p.2, p.3, m.1.0), m.1.1))

any_meet-from : (ys xs : List (Option Entry)) (m : ℕ) → At xs m → At ys m → any_meet ys xs ≡ true
any_meet-from ys xs m s t =
    let p = Any-from_list_any (λ e. covers e m) (filled xs) s in
    list_any-from_Any (λ a. meets_any a ys) (filled xs) (p.0, p.1, p.2, p.3, meets_any-from p.1 ys m p.4 t)

common-at : (d o : ℕ) → common_day d o ≡ true → (w : ℕ) × (both_run d o w ≡ true)
unfolding common_day
common-at d o h = let p = Any-from_list_any (both_run d o) (range_with_len 0 7) h in (p.1, p.4)

common-from : (d o w : ℕ) → both_run d o w ≡ true → w < 7 → common_day d o ≡ true
unfolding common_day
common-from d o w h l = list_any_at (both_run d o) (range_with_len 0 7) w 0 l (ap (both_run d o) (get_or-range_with_len 0 7 w 0 l ∙ (omega arith)) ∙ h)

pub shares_meaning : (p q : Plan) (b : Bool) → b ≡ shares p q → Decides b (SharesMinute p q)
unfolding shares
shares_meaning p q b e = (
  λ h. let a = and_parts (common_day p.days q.days) (any_meet q.entries p.entries) (sym e ∙ h) in
      let w = common-at p.days q.days a.0 in
      let r = and_parts (runs_on p.days w.0) (runs_on q.days w.0) w.1 in
      let m = any_meet-at q.entries p.entries a.1 in
      (w.0, (m.0, (due p w.0 m.0 ∙ and_from _ _ r.0 m.1.0, due q w.0 m.0 ∙ and_from _ _ r.1 m.1.1))),
  λ s. let x = and_parts _ _ (sym (due p s.0 s.1.0) ∙ s.1.1.0) in
      let y = and_parts _ _ (sym (due q s.0 s.1.0) ∙ s.1.1.1) in
      let l = and_parts (ltb s.0 7) _ x.0 in
      e ∙ and_from _ _
      (common-from p.days q.days s.0 (and_from _ _ x.0 y.0) (ltb-true s.0 7 l.0))
      (any_meet-from q.entries p.entries s.1.0 x.1 y.1),
)
