-- The reply that lists the enabled plans, in the order given. Assumes nothing.
use Rattle.std.specs.Prelude.{ℕ, List, [], ◌∷◌}
use Rattle.replies.specs.List.{list_bytes}
use Rattle.replies.specs.declared.plans.EnabledPlan.{EnabledPlan}

abbrev pub enabled_plan_bytes : EnabledPlan → List ℕ
enabled_plan_bytes e = e.group ∷ e.plan ∷ []

unfoldable pub enabled_plans_reply : List EnabledPlan → List ℕ
enabled_plans_reply plans = 0x13 ∷ list_bytes enabled_plan_bytes plans
