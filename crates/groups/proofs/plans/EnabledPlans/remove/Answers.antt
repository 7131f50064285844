use Rattle.std.proofs.Common.{None, rules}
use Rattle.records.proofs.Arrays.{mapped}
use Rattle.groups.specs.Plans.{cleared}
use Rattle.groups.proofs.plans.EnabledPlans.remove.Goals as goal

pub returns : goal.returns
returns c =
    let e = mapped _ (cleared c.args.plan) _ c.args.self.now.slots c.map-self.result (λ x y q k. search rules) 8 None c.map-self.ensures.items (cc) in cc
