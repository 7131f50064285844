use Rattle.std.proofs.Common.{refl, rules}
use Rattle.std.proofs.lemmas.Iterator.{YieldsList-from_range}
use Rattle.std.proofs.lemmas.Iterator.Search.{any_from_yields_List}
use Rattle.records.specs.Plans.{both_run, common_day}
use Rattle.records.proofs.plan.common_day.Goals as goal
use borrow.Author.Tests.{tests}

pub returns : goal.returns
unfolding common_day
returns c =
    any_from_yields_List (both_run c.args.days c.args.others) _ _ _ c.any.ensures.ran (YieldsList-from_range 0 7 7 refl refl)
    (λ x b q k. search (rules, tests))
