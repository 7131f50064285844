use Rattle.std.proofs.Common.{◌∙◌, rules, tests}
use Rattle.std.proofs.lemmas.Iterator.{YieldsList-from_slice}
use Rattle.std.proofs.lemmas.Iterator.Adapters.{YieldsList-from_skip_while}
use Rattle.std.proofs.lemmas.Iterator.Search.{all_from_yields_List}
use Rattle.fitness.proofs.Listing.{blank_after_filled}
use Rattle.fitness.proofs.judging.ends_well.Goals as goal

pub returns : goal.returns
returns g c =
    all_from_yields_List g.E.Listed.blanks _ _ c.all.result c.all.ensures.ran
    (YieldsList-from_skip_while _ _ _ g.E.Listed.fills _ (λ x b q k. search (rules, tests))
    (YieldsList-from_slice c.args.list.now (cc)) c.skip_while.ensures.closure c.skip_while.ensures.done_skipping)
    (λ x b q k. search (rules, tests))
    ∙ blank_after_filled g.E.Listed.fills g.E.Listed.blanks c.args.list.now
