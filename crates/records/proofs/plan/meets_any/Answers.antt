use Rattle.std.proofs.Common.{rules}
use Rattle.std.proofs.lemmas.Iterator.Search.{any_from_yields_List}
use Rattle.records.specs.Plans.{meets}
use Rattle.records.proofs.Filled.{filled_road}
use Rattle.records.proofs.plan.meets_any.Goals as goal
use borrow.Author.Tests.{tests}

pub returns : goal.returns
returns c =
    any_from_yields_List (meets c.args.one.now) _ _ _ c.any.ensures.ran
    (filled_road c.args.others.now (cc) (cc) (cc) (cc)) (λ x b q k. search (rules, tests))
