-- Logs of as many entries are equal all through.
use Rattle.std.proofs.Common.{ℕ, ◌≤◌}
use Rattle.std.specs.Coded.{le_prop}
use mathlib.Core.HLevel.{is_prop→PathP}
use Rattle.journal.specs.Logs.{Alike}

pub alike : {bound : ℕ} → Alike bound
alike {bound} a b e = λ i. record { count = e i; few = is_prop→PathP (λ j. e j ≤ bound) (λ j. le_prop) a.few b.few i }
