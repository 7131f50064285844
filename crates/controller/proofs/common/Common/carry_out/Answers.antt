use Rattle.commands.specs.Sent.{values_of}
use Rattle.controller.proofs.Storing.{stored-out}
use Rattle.controller.proofs.common.Common.carry_out.Goals as goal

pub returns-in-Some : goal.returns-in-Some
returns-in-Some c = stored-out (values_of c.args.command.now) c.args.self.now c.in-Some.kept c.put.new.self c.in-Some.ensures.value c.put.ensures.after
