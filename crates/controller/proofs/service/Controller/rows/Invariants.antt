use Rattle.std.proofs.Common.{◌≡◌, length}
use Rattle.controller.specs.Status.{rows_up_to}
use Rattle.controller.proofs.service.Controller.rows.Given as goal

abbrev pub invariant-loop-place : goal.invariant-loop-place
invariant-loop-place g l = (l.rows.items ≡ rows_up_to l.self (g.R.Rack.takes l.rack) l.place) × (length l.rows.items ≡ l.place)
