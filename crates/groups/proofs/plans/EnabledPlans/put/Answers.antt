use Rattle.std.proofs.Common.{ℕ, sym, ◌∙◌, rules}
use Rattle.std.proofs.lemmas.Iterator.{YieldsList-from_slice}
use Rattle.std.proofs.lemmas.Iterator.Search.{position_from_yields_List}
use Rattle.std.specs.Option.{is_none}
use Rattle.groups.proofs.Slots.{put_some, put_none}
use Rattle.groups.proofs.plans.EnabledPlans.put.Goals as goal
use borrow.Author.Tests.{tests}

pub returns-in-Some : goal.returns-in-Some
returns-in-Some c =
    let e = position_from_yields_List (is_none {T = ℕ}) _ _ _ c.position.ensures.ran (YieldsList-from_slice c.args.self.now.slots (cc)) (λ x b q k. search (rules, tests)) in
    put_some c.args.self.now.slots c.args.plan c.in-Some.free (sym e ∙ c.in-Some.is)

pub returns-in_default : goal.returns-in_default
returns-in_default c =
    let e = position_from_yields_List (is_none {T = ℕ}) _ _ _ c.position.ensures.ran (YieldsList-from_slice c.args.self.now.slots (cc)) (λ x b q k. search (rules, tests)) in
    put_none c.args.self.now.slots c.args.plan (sym e ∙ c.in_default.is)
