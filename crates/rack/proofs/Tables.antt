-- Signs that are numbered from 1.
use Rattle.std.proofs.Common.{◌≡◌, ℕ, ◌≤◌, true, arith}
use Rattle.std.proofs.lemmas.Bool.Decides.{nat_tests}
use Rattle.rack.specs.Face.{has}

-- A rack has the signs from 1 to its number of signs.
pub has_within : (n s : ℕ) → has n s ≡ true → (1 ≤ s) × (s ≤ n)
has_within n s e = (grind (arith, nat_tests), grind (arith, nat_tests))
