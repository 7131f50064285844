use Rattle.std.proofs.Common.{rules}
use Rattle.std.proofs.lemmas.Iterator.Search.{any_from_yields_List}
use Rattle.records.specs.declared.plan.Entry.{Entry}
use Rattle.records.specs.Plans.{meets_any}
use Rattle.records.proofs.Filled.{filled_road}
use Rattle.records.proofs.plan.any_meet.Goals as goal
use borrow.Author.Tests.{tests}

pub returns : goal.returns
returns c =
    any_from_yields_List (λ (e : Entry). meets_any e c.args.others.now) _ _ _ c.any.ensures.ran
    (filled_road c.args.entries.now (cc) (cc) (cc) (cc)) (λ x b q k. search (rules, tests))
