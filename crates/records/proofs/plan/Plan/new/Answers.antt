use Rattle.std.proofs.Common.{◌≡◌, length, arith, rules}
use Rattle.commands.specs.declared.lists.Line.{Line}
use Rattle.records.specs.Plans.{entry_of, plan_of}
use Rattle.records.proofs.Arrays.{mapped}
use Rattle.records.proofs.plan.Plan.new.Goals as goal

pub returns : goal.returns
unfolding plan_of
returns c =
    let n : length c.args.lines ≡ 6 = omega arith in
    let blank : Line = record { kind = 0; number = 0; start = record { hour = 0; minute = 0 }; stop = record { hour = 0; minute = 0 } } in
    let e = mapped _ entry_of _ c.args.lines c.map.result (λ x y q k. search rules) 6 blank c.map.ensures.items n in cc
