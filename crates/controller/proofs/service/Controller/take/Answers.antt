use Rattle.std.proofs.Common.{length}
use Rattle.controller.proofs.Reaching.{reached-more}
use Rattle.controller.proofs.service.Controller.take.Goals as goal

pub returns-clause-reached : goal.returns-clause-reached
returns-clause-reached g c =
    reached-more (length c.args.faults.now) c.args.self.now c.act.new.self (g.R.Rack.takes c.args.rack.now) (g.R.Rack.takes c.act.new.rack) (g.R.Rack.face c.args.rack.now) (g.R.Rack.face c.act.new.rack) c.args.call c.act.ensures.acted c.act.ensures.same.taking
