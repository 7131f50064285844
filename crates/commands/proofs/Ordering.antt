-- A code that is of no order.
use Rattle.std.proofs.Common.{◌≡◌, ◌≢◌, ℕ, List, arith}
use Rattle.std.proofs.lemmas.Bool.Decides.{nat_tests}
use Rattle.commands.specs.declared.command.Order.{Order}
use Rattle.commands.specs.declared.command.Order.TheVariants.{Reset, Frame, Message, EnablePlan, DisablePlan, Power, Enable}
use Rattle.commands.specs.declared.rejection.Rejection.TheVariants.{UnknownCode}
use Rattle.commands.specs.Orders.{code_of}
use Rattle.commands.specs.Sent.{ordered, refused}

pub ordered_none : (c : ℕ) (m : List ℕ) → ((order : Order) → code_of order ≢ c) → refused UnknownCode ≡ ordered c m
ordered_none c m none =
    let a = none Reset in
    let b = none Frame in
    let d = none Message in
    let e = none EnablePlan in
    let f = none DisablePlan in
    let g = none Power in
    let h = none Enable in
    grind (arith, nat_tests)
