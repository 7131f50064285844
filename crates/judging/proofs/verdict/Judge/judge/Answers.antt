use Rattle.commands.specs.Sent.{parsed}
use Rattle.judging.specs.Judgements.{against, judged, judgement}
use Rattle.judging.specs.Rejections.{in_order}
use Rattle.judging.proofs.Deciding.{grounded-at}
use Rattle.judging.proofs.verdict.Judge.judge.Goals as goal

pub returns-clause-first : goal.returns-clause-first
unfolding judged
returns-clause-first c =
    grounded-at (against c.args.self.now.session c.args.self.now.offsets c.args.self.now.store.now c.args.message.now (parsed c.args.message.now))
    (parsed c.args.message.now) in_order (judgement c.decide.result) c.decide.ensures
