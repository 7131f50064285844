-- Where enabled plans are apart, only one of them has an entry at a minute.
use Rattle.std.proofs.Common.{◌≡◌, ℕ, zero, suc, ◌&&◌, List, [], ◌∷◌, get_or, is_some, Some, None, Option, sym, refl, ap, ◌∙◌, ⊎_elim, arith}
use Rattle.std.proofs.lemmas.Bool.{cases_Bool, cond-true, cond-false}
use Rattle.calendar.specs.declared.date_time.DateTime.{DateTime}
use Rattle.records.specs.declared.plan.Entry.{Entry}
use Rattle.records.specs.declared.store.Store.{Store}
use Rattle.records.specs.Slots.{slot_of}
use Rattle.groups.specs.declared.due.Due.{Due}
use Rattle.groups.specs.declared.due.Moment.{Moment}
use Rattle.groups.specs.declared.group.Direct.{Direct}
use Rattle.groups.specs.declared.group.GroupRecord.{GroupRecord}
use Rattle.groups.specs.Apart.{runs_at, Apart, AnyOrder}
use Rattle.groups.specs.Due.{entry_of, entry_due, moment_of, slot_due, first_due, planned, ordered, wanted_of, where_kept, due_of}

entry-due : (n second : ℕ) (e : Option Entry) → is_some (entry_due n second e) ≡ is_some e
entry-due n second None = refl
entry-due n second (Some e) = refl

module _ (s : Store) (t : Moment) where
  runs-due : (x : Option ℕ) → is_some (slot_due s t x) ≡ runs_at s t.weekday t.minute x
  runs-due None = refl
  runs-due (Some n) = entry-due n t.second (entry_of (slot_of s.plans n) t.weekday t.minute)

  only : (xs : List (Option ℕ)) (i : ℕ) (d : Due) → Apart s xs → slot_due s t (get_or xs i None) ≡ Some d → first_due s t xs ≡ Some d
  only [] i d apart h = h
  only (x ∷ xs) zero d apart h =
      cond-true (is_some (slot_due s t x)) (slot_due s t x) (first_due s t xs) (ap is_some h) ∙ h
  only (x ∷ xs) (suc i) d apart h = ⊎_elim
      (λ h₀. absurd (apart 0 (suc i) t.weekday t.minute (omega arith) (sym (runs-due x) ∙ h₀) (sym (runs-due (get_or xs i None)) ∙ ap is_some h)))
      (λ h₀. cond-false (is_some (slot_due s t x)) (slot_due s t x) (first_due s t xs) h₀
      ∙ only xs i d (λ a b v u l. apart (suc a) (suc b) v u (omega arith)) h)
      (cases_Bool (is_some (slot_due s t x)))

pub any_order : (s : Store) (t : DateTime) (g : GroupRecord) (r : Option Due) → r ≡ due_of s t g → AnyOrder s t g r
unfolding due_of planned
any_order s t g r q apart none on i d h =
    let e = only s (moment_of t) g.plans.slots i d apart h in
    q ∙ cond-true (g.powered && g.enabled) (where_kept s (wanted_of s t g)) None on
    ∙ ap (where_kept s) (ap (λ (o : Option Direct). elim o [ None ↦ planned s t g.plans.slots | Some q ↦ Some (ordered q) ]) none ∙ e)
