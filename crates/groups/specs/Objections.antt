-- What can stand against an order to a group, and which of it decides.
use Rattle.std.specs.Prelude.{◌≡◌, ℕ, Bool, true, false, cond, not, ◌&&◌, List, [], ◌∷◌, is_some, Some, None, Option, ◌==◌, nat_le}
use Rattle.std.specs.List.{list_any}
use Rattle.commands.specs.declared.command.Order.{Order}
use Rattle.commands.specs.declared.command.Order.TheVariants.{Reset, Frame, Message, EnablePlan, DisablePlan, Power, Enable}
use Rattle.records.specs.declared.plan.Plan.{Plan}
use Rattle.records.specs.declared.store.Store.{Store}
use Rattle.records.specs.Plans.{shares}
use Rattle.records.specs.Slots.{slot_of}
use Rattle.groups.specs.declared.group.GroupRecord.{GroupRecord}
use Rattle.groups.specs.declared.objection.Objection.{Objection}
use Rattle.groups.specs.declared.objection.Objection.TheVariants.{Unfit, NotStored, Overlap, NinthPlan}
use Rattle.groups.specs.Apart.{Apart}
use Rattle.groups.specs.Plans.{includes, full}

abbrev pub number_of : Objection → ℕ
number_of Unfit = 0x44
number_of NotStored = 0x45
number_of Overlap = 0x46
number_of NinthPlan = 0x47

-- levels 0 to 3; a plan to be enabled has a number; power and enabling are 0 or 1
abbrev pub operand_fits : Order → ℕ → Bool
operand_fits Reset level = nat_le level 3
operand_fits Frame n = true
operand_fits Message n = true
operand_fits EnablePlan n = nat_le 1 n
operand_fits DisablePlan n = true
operand_fits Power n = nat_le n 1
operand_fits Enable n = nat_le n 1

-- what is to be shown or enabled is stored; 0 withdraws, and names nothing
abbrev pub record_kept : Store → Order → ℕ → Bool
record_kept s Reset level = true
record_kept s Frame n = cond (n == 0) true (is_some (slot_of s.frames n))
record_kept s Message n = cond (n == 0) true (is_some (slot_of s.messages n))
record_kept s EnablePlan n = is_some (slot_of s.plans n)
record_kept s DisablePlan n = true
record_kept s Power n = true
record_kept s Enable n = true

abbrev pub sharing : Plan → Option Plan → Bool
sharing p None = false
sharing p (Some q) = shares p q

-- a plan shares a minute of a weekday with the stored plan of a slot
abbrev pub crosses : Store → Plan → Option ℕ → Bool
crosses s p None = false
crosses s p (Some m) = sharing p (slot_of s.plans m)

-- and with that of one of several
abbrev pub crosses_any : Store → Plan → List (Option ℕ) → Bool
crosses_any s p xs = list_any (λ x. crosses s p x) xs

abbrev pub crossed : Store → Option Plan → List (Option ℕ) → Bool
crossed s None xs = false
crossed s (Some p) xs = crosses_any s p xs

-- a plan that is not enabled yet shares a minute with one that is
abbrev pub overlaps : Store → GroupRecord → ℕ → Bool
overlaps s g n = cond (includes g.plans.slots n) false (crossed s (slot_of s.plans n) g.plans.slots)

-- a plan that is not enabled yet finds every slot taken
abbrev pub ninth : GroupRecord → ℕ → Bool
ninth g n = cond (includes g.plans.slots n) false (full g.plans.slots)

-- only the enabling of a plan can meet other plans
abbrev pub enabling : Order → Bool
enabling Reset = false
enabling Frame = false
enabling Message = false
enabling EnablePlan = true
enabling DisablePlan = false
enabling Power = false
enabling Enable = false

-- Which grounds stand against an order.
abbrev pub against : Store → GroupRecord → Order → ℕ → Objection → Bool
against s g o n Unfit = not (operand_fits o n)
against s g o n NotStored = not (record_kept s o n)
against s g o n Overlap = enabling o && overlaps s g n
against s g o n NinthPlan = enabling o && ninth g n

abbrev pub in_order : List Objection
in_order = Unfit ∷ NotStored ∷ Overlap ∷ NinthPlan ∷ []

-- The first ground of several that stands.
abbrev pub first_of : (Objection → Bool) → List Objection → Option Objection
first_of stands [] = None
first_of stands (x ∷ xs) = cond (stands x) (Some x) (first_of stands xs)

abbrev pub objection_to : Store → GroupRecord → Order → ℕ → Option Objection
objection_to s g o n = first_of (against s g o n) in_order

-- An order that nothing stands against leaves enabled plans apart that were.
abbrev pub StaysApart : GroupRecord → Order → ℕ → GroupRecord → Type 0
StaysApart before o n after = (s : Store) → objection_to s before o n ≡ None → Apart s before.plans.slots → Apart s after.plans.slots
