use Rattle.std.proofs.Common.{◌≡◌, ℕ, ◌+◌, ◌<◌, ◌≤◌}
use Rattle.controller.specs.Due.{view, face_due, sign_group}
use Rattle.controller.specs.Faces.{SameSigns}
use Rattle.controller.proofs.faces.settle.Given as goal

abbrev pub invariant-loop-place : goal.invariant-loop-place
invariant-loop-place g l = record {
  settled : (k : ℕ) → k < l.place → g.R.Rack.face l.rack (k + 1) ≡ face_due (view (sign_group l.controller k) l.controller) (g.R.Rack.takes l.initial.rack (k + 1));
  others : (k : ℕ) → l.place ≤ k → g.R.Rack.face l.rack (k + 1) ≡ g.R.Rack.face l.initial.rack (k + 1);
  same : SameSigns (g.R.Rack.signs l.initial.rack) (g.R.Rack.signs l.rack) (g.R.Rack.takes l.initial.rack) (g.R.Rack.takes l.rack);
}
