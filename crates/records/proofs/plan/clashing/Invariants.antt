use Rattle.std.proofs.Common.{◌≡◌, drop}
use Rattle.records.specs.Plans.{clashing}
use Rattle.records.proofs.plan.clashing.Given as goal

abbrev pub invariant-loop-place : goal.invariant-loop-place
invariant-loop-place l = clashing (drop l.place-counter l.entries) ≡ clashing l.entries
