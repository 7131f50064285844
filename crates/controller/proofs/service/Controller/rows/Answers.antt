use Rattle.std.proofs.Common.{length, ap, arith}
use Rattle.controller.proofs.service.Controller.rows.Goals as goal

pub push-requires : goal.push-requires
push-requires g c = (omega arith, omega (arith, ap length c.as_slice-groups.ensures.bytes, c.as_slice-groups.ensures.most, c.loop-place.invariant.1))
