use Rattle.std.proofs.Common.{◌≡◌, ℕ, ◌<◌, ◌≤◌}
use Rattle.rack.specs.Face.{dark}
use Rattle.controller.specs.Faces.{SameSigns}
use Rattle.controller.proofs.faces.darken_all.Given as goal

abbrev pub invariant-loop-sign : goal.invariant-loop-sign
invariant-loop-sign g l = record {
  unlit : (s : ℕ) → 1 ≤ s → s < l.sign → g.R.Rack.face l.rack s ≡ dark;
  same : SameSigns (g.R.Rack.signs l.initial.rack) (g.R.Rack.signs l.rack) (g.R.Rack.takes l.initial.rack) (g.R.Rack.takes l.rack);
}
