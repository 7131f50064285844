-- What an accepted order makes of the record of its group.
use Rattle.std.specs.Prelude.{ℕ, true, cond, None, ◌==◌}
use Rattle.commands.specs.declared.command.Order.{Order}
use Rattle.commands.specs.declared.command.Order.TheVariants.{Reset, Frame, Message, EnablePlan, DisablePlan, Power, Enable}
use Rattle.records.specs.declared.plan.Shows.TheVariants.{Frame as frame, Message as message}
use Rattle.groups.specs.declared.group.GroupRecord.{GroupRecord}
use Rattle.groups.specs.Groups.{with_direct, with_plans, with_power, with_enabled, fresh}
use Rattle.groups.specs.Plans.{no_plans, including, without}

-- Level 0 withdraws the direct order and enables the group; any other also disables its plans. Power is left.
abbrev pub reset : ℕ → GroupRecord → GroupRecord
reset level g = record { direct = None; plans = record { slots = cond (level == 0) g.plans.slots no_plans }; powered = g.powered; enabled = true }

abbrev pub obeyed : Order → ℕ → GroupRecord → GroupRecord
obeyed Reset level g = reset level g
obeyed Frame n g = with_direct (cond (n == 0) None (fresh (frame n))) g
obeyed Message n g = with_direct (cond (n == 0) None (fresh (message n))) g
obeyed EnablePlan n g = with_plans (including g.plans.slots n) g
obeyed DisablePlan n g = with_plans (cond (n == 0) no_plans (without g.plans.slots n)) g
obeyed Power n g = with_power (n == 1) g
obeyed Enable n g = with_enabled (n == 1) g
