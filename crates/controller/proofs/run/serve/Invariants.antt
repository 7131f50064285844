use Rattle.std.proofs.Common.{length, take}
use Rattle.controller.specs.Faces.{SameSigns}
use Rattle.controller.specs.Run.{made, Reached}
use Rattle.controller.proofs.run.serve.Given as goal

abbrev pub invariant-loop-call : goal.invariant-loop-call
invariant-loop-call g l =
    Reached l.initial.controller.site (g.R.Rack.takes l.rack) (made (length l.initial.faults) (take l.call-index l.calls)) l.controller (g.R.Rack.face l.rack)
    × SameSigns (g.R.Rack.signs l.initial.rack) (g.R.Rack.signs l.rack) (g.R.Rack.takes l.initial.rack) (g.R.Rack.takes l.rack)
