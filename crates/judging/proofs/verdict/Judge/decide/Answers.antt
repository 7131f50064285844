use Rattle.std.proofs.Common.{◌≡◌, false, rules, sym}
use Rattle.std.proofs.lemmas.Result.{err_from_is_err_and}
use Rattle.judging.specs.Conditions.{ordering}
use Rattle.judging.specs.Judgements.{judged}
use Rattle.judging.proofs.Reading.{has-form}
use Rattle.judging.proofs.verdict.Judge.decide.Goals as goal

pub returns-in_err-command : goal.returns-in_err-command
unfolding judged
returns-in_err-command c =
    let e : ordering c.args.message.now ≡ false = search rules in
    let p = err_from_is_err_and c.from_residual.result c.from_residual.ensures.1 in
    let is = c.in_err-command.ensures in
    rw (p.1, p.2, sym is, e) (search rules)

pub returns : goal.returns
unfolding judged
returns c =
    let e : ordering c.args.message.now ≡ false = search rules in
    let f = has-form c.in_ok-command.command in
    rw (sym c.in_ok-command.ensures, e, f.0, f.1) c.admit.ensures
