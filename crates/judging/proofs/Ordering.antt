-- A code is read as an order if it is the code of one.
use Rattle.std.proofs.Common.{◌≡◌, ℕ, true, Ok, Err, Result, refl, subst, arith}
use Rattle.std.proofs.lemmas.Bool.Decides.{nat_tests}
use Rattle.std.specs.Result.{is_ok}
use Rattle.commands.specs.declared.command.Order.{Order}
use Rattle.commands.specs.declared.command.Order.TheVariants.{Reset, Frame, Message, EnablePlan, DisablePlan, Power, Enable}
use Rattle.commands.specs.declared.command.UnknownOrder.{UnknownOrder}
use Rattle.commands.specs.Orders.{Decodes, code_of}
use Rattle.judging.specs.Conditions.{order_code}

has_code : (order : Order) → true ≡ order_code (code_of order)
has_code Reset = refl
has_code _ = refl

pub read_as_order : (c : ℕ) (r : Result Order UnknownOrder) → Decodes c r → is_ok r ≡ order_code c
read_as_order c (Ok order) d = subst (λ (k : ℕ). true ≡ order_code k) d (has_code order)
read_as_order c (Err unknown) d =
    let r = d.1 Reset in
    let f = d.1 Frame in
    let m = d.1 Message in
    let n = d.1 EnablePlan in
    let o = d.1 DisablePlan in
    let p = d.1 Power in
    let q = d.1 Enable in
    grind (arith, nat_tests)
