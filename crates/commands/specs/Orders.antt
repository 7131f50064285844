-- The codes of the group orders.
use Rattle.std.specs.Prelude.{◌≡◌, ◌≢◌, ℕ, Result, MatchResult}
use Rattle.commands.specs.declared.command.Order.{Order}
use Rattle.commands.specs.declared.command.Order.TheVariants.{Reset, Frame, Message, EnablePlan, DisablePlan, Power, Enable}
use Rattle.commands.specs.declared.command.UnknownOrder.{UnknownOrder}

abbrev pub code_of : Order → ℕ
code_of Reset = 0x08
code_of Frame = 0x0E
code_of Message = 0x0F
code_of EnablePlan = 0x10
code_of DisablePlan = 0x11
code_of Power = 0x15
code_of Enable = 0x16

-- the result is the order of this code, or the code where no order has it
abbrev pub Decodes : ℕ → Result Order UnknownOrder → Type 0
Decodes code r = MatchResult r (λ order. code_of order ≡ code) (λ e. (e.0 ≡ code) × ((order : Order) → code_of order ≢ code))
