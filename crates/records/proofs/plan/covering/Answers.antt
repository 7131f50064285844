use Rattle.std.proofs.Common.{◌∙◌, rules}
use Rattle.std.proofs.lemmas.Iterator.Search.{find_from_yields_List}
use Rattle.records.specs.declared.plan.Entry.{Entry}
use Rattle.records.specs.Plans.{covers}
use Rattle.records.proofs.Filled.{filled_road}
use Rattle.records.proofs.plan.covering.Goals as goal
use borrow.Author.Tests.{tests}

pub returns : goal.returns
returns c =
    c.copied.ensures
    ∙ find_from_yields_List (λ (e : Entry). covers e c.args.minute) _ _ _ c.find.ensures.ran
    (filled_road c.args.entries.now (cc) (cc) (cc) (cc)) (λ x b q k. search (rules, tests))
