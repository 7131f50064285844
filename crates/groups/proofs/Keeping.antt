-- An order that nothing stands against leaves enabled plans apart.
use Rattle.std.proofs.Common.{◌≡◌, ℕ, zero, suc, Bool, true, false, cond, ◌||◌, eqb, ◌⊎◌, List, [], ◌∷◌, length, get_or, set, replicate, is_some, Some, None, Option, sym, refl, ap, ◌∙◌, subst, inl, inr, ⊎_elim, arith}
use Rattle.std.proofs.lemmas.List.{get_or-set_same, get_or-set_other, get_or_past, length-set}
use Rattle.std.proofs.Math.Bool.{or-true}
use Rattle.std.proofs.lemmas.Bool.{false≢true, cases_Bool, cases_eq, cases_lt, cond-true, cond-false}
use Rattle.std.specs.List.{position_or_len}
use Rattle.std.specs.Option.{is_none}
use Rattle.commands.specs.declared.command.Order.{Order}
use Rattle.commands.specs.declared.command.Order.TheVariants.{Reset, Frame, Message, EnablePlan, DisablePlan, Power, Enable}
use Rattle.records.proofs.Sharing.{shares_meaning}
use Rattle.records.specs.declared.plan.Plan.{Plan}
use Rattle.records.specs.declared.store.Store.{Store}
use Rattle.records.specs.Plans.{entry_at, shares}
use Rattle.records.specs.Slots.{slot_of}
use Rattle.groups.proofs.Slots.{put_at}
use Rattle.groups.specs.declared.group.GroupRecord.{GroupRecord}
use Rattle.groups.specs.declared.objection.Objection.{Objection}
use Rattle.groups.specs.declared.objection.Objection.TheVariants.{Unfit, NotStored, Overlap, NinthPlan}
use Rattle.groups.specs.Apart.{runs_at, Apart}
use Rattle.groups.specs.Due.{entry_of}
use Rattle.groups.specs.Objections.{sharing, crosses, crosses_any, crossed, against, first_of, StaysApart}
use Rattle.groups.specs.Orders.{obeyed}
use Rattle.groups.specs.Plans.{no_plans, includes, put, including, without}

-- two plans with an entry at one minute share it
sharing-from : (p : Plan) (o : Option Plan) (w m : ℕ) → is_some (entry_at p w m) ≡ true → is_some (entry_of o w m) ≡ true → sharing p o ≡ true
sharing-from p None w m a b = cc
sharing-from p (Some q) w m a b = (shares_meaning p q (shares p q) refl).1 (w, (m, (a, b)))

module _ (s : Store) (w m : ℕ) where
  crosses-from : (p : Plan) (x : Option ℕ) → is_some (entry_at p w m) ≡ true → runs_at s w m x ≡ true → crosses s p x ≡ true
  crosses-from p None a b = cc
  crosses-from p (Some k) a b = sharing-from p (slot_of s.plans k) w m a b

  any-from : (p : Plan) (xs : List (Option ℕ)) (j : ℕ) → is_some (entry_at p w m) ≡ true → runs_at s w m (get_or xs j None) ≡ true → crosses_any s p xs ≡ true
  any-from p [] j a b = cc
  any-from p (x ∷ xs) zero a b = ap (λ (t : Bool). t || crosses_any s p xs) (crosses-from p x a b)
  any-from p (x ∷ xs) (suc j) a b = ap (λ (t : Bool). crosses s p x || t) (any-from p xs j a b) ∙ or-true (crosses s p x)

  crossed-from : (o : Option Plan) (xs : List (Option ℕ)) (j : ℕ) → is_some (entry_of o w m) ≡ true → runs_at s w m (get_or xs j None) ≡ true → crossed s o xs ≡ true
  crossed-from None xs j a b = cc
  crossed-from (Some p) xs j a b = any-from p xs j a b

  -- what runs in a list with one place set is what was set or what ran before
  at_set : (xs : List (Option ℕ)) (k n i : ℕ) → runs_at s w m (get_or (set xs k (Some n)) i None) ≡ true
      → ((i ≡ k) × (runs_at s w m (Some n) ≡ true)) ⊎ (runs_at s w m (get_or xs i None) ≡ true)
  at_set xs k n i h = ⊎_elim
      (λ e. ⊎_elim
      (λ l. inl (e, subst (λ (x : Option ℕ). runs_at s w m x ≡ true) (get_or-set_same xs i (Some n) None l) (subst (λ (q : ℕ). runs_at s w m (get_or (set xs q (Some n)) i None) ≡ true) (sym e) h)))
      (λ g. let z : length (set xs k (Some n)) ≡ length xs = length-set xs k (Some n) in
      absurd (false≢true (subst (λ (x : Option ℕ). runs_at s w m x ≡ true) (get_or_past (set xs k (Some n)) i None (omega arith)) h)))
      (cases_lt i (length xs)))
      (λ d. inr (subst (λ (x : Option ℕ). runs_at s w m x ≡ true) (get_or-set_other xs k i (Some n) None d) h))
      (cases_eq i k)

  at-cleared : (xs : List (Option ℕ)) (n i : ℕ) → runs_at s w m (get_or (without xs n) i None) ≡ true → runs_at s w m (get_or xs i None) ≡ true
  at-cleared [] n i h = h
  at-cleared (None ∷ xs) n zero h = h
  at-cleared (Some k ∷ xs) n zero h = ⊎_elim
      (λ t. absurd (false≢true (subst (λ (x : Option ℕ). runs_at s w m x ≡ true) (cond-true (eqb k n) None (Some k) t) h)))
      (λ t. subst (λ (x : Option ℕ). runs_at s w m x ≡ true) (cond-false (eqb k n) None (Some k) t) h)
      (cases_Bool (eqb k n))
  at-cleared (x ∷ xs) n (suc i) h = at-cleared xs n i h

  at_none : (c i : ℕ) → runs_at s w m (get_or (replicate c None) i None) ≡ true → ⊥
  at_none zero i h = false≢true h
  at_none (suc c) zero h = false≢true h
  at_none (suc c) (suc i) h = at_none c i h

module _ (s : Store) (xs : List (Option ℕ)) where
  set_apart : (k n : ℕ) → crossed s (slot_of s.plans n) xs ≡ false → Apart s xs → Apart s (set xs k (Some n))
  set_apart k n f apart i j w m l a b = ⊎_elim
      (λ e. ⊎_elim
      (λ g. omega (arith, e.0, g.0))
      (λ g. false≢true (sym f ∙ crossed-from s w m (slot_of s.plans n) xs j e.1 g))
      (at_set s w m xs k n j b))
      (λ e. ⊎_elim
      (λ g. false≢true (sym f ∙ crossed-from s w m (slot_of s.plans n) xs i g.1 e))
      (λ g. apart i j w m l e g)
      (at_set s w m xs k n j b))
      (at_set s w m xs k n i a)

  without-apart : (n : ℕ) → Apart s xs → Apart s (without xs n)
  without-apart n apart i j w m l a b = apart i j w m l (at-cleared s w m xs n i a) (at-cleared s w m xs n j b)

  none_apart : Apart s no_plans
  none_apart i j w m l a b = at_none s w m 8 i a

  by-choice : (b : Bool) (ys zs : List (Option ℕ)) → Apart s ys → Apart s zs → Apart s (cond b ys zs)
  by-choice true ys zs p q = p
  by-choice false ys zs p q = q

  including-apart : (n : ℕ) → cond (includes xs n) false (crossed s (slot_of s.plans n) xs) ≡ false → Apart s xs → Apart s (including xs n)
  including-apart n f apart = ⊎_elim
      (λ t. subst (Apart s) (sym (cond-true (includes xs n) xs (put xs n) t)) apart)
      (λ t. subst (Apart s) (sym (cond-false (includes xs n) xs (put xs n) t ∙ sym (put_at xs n)))
      (set_apart (position_or_len is_none xs) n (sym (cond-false (includes xs n) false (crossed s (slot_of s.plans n) xs) t) ∙ f) apart))
      (cases_Bool (includes xs n))

-- where no ground is the first to stand, none stands
passed : (b : Bool) (x : Objection) (r : Option Objection) → cond b (Some x) r ≡ None → (b ≡ false) × (r ≡ None)
passed true x r h = let z : ◌≡◌ {A = ℕ} 0 1 = cc in absurd (omega arith)
passed false x r h = (refl, h)

past : (stands : Objection → Bool) (x : Objection) (xs : List Objection) → first_of stands (x ∷ xs) ≡ None → (stands x ≡ false) × (first_of stands xs ≡ None)
past stands x xs h = passed (stands x) x (first_of stands xs) h

kept_apart : (g : GroupRecord) (o : Order) (n : ℕ) → StaysApart g o n (obeyed o n g)
kept_apart g Reset n s h apart = by-choice s g.plans.slots (eqb n 0) g.plans.slots no_plans apart (none_apart s g.plans.slots)
kept_apart g Frame n s h apart = apart
kept_apart g Message n s h apart = apart
kept_apart g EnablePlan n s h apart =
    let a = past (against s g EnablePlan n) Unfit (NotStored ∷ Overlap ∷ NinthPlan ∷ []) h in
    let b = past (against s g EnablePlan n) NotStored (Overlap ∷ NinthPlan ∷ []) a.1 in
    let e = past (against s g EnablePlan n) Overlap (NinthPlan ∷ []) b.1 in
    including-apart s g.plans.slots n e.0 apart
kept_apart g DisablePlan n s h apart = by-choice s g.plans.slots (eqb n 0) no_plans (without g.plans.slots n) (none_apart s g.plans.slots) (without-apart s g.plans.slots n apart)
kept_apart g Power n s h apart = apart
kept_apart g Enable n s h apart = apart

pub stays_apart : (g : GroupRecord) (o : Order) (n : ℕ) (h : GroupRecord) → h ≡ obeyed o n g → StaysApart g o n h
stays_apart g o n h e = subst (StaysApart g o n) (sym e) (kept_apart g o n)
