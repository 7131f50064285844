use Rattle.std.proofs.Common.{rules}
use Rattle.controller.proofs.Reaching.{reached-none}
use Rattle.controller.proofs.commissioning.Commissioning.close.Goals as goal

pub returns-clause-reached : goal.returns-clause-reached
returns-clause-reached g c = reached-none c.args.self.site _ _ _ (search rules) c.darken_all.ensures.dark
