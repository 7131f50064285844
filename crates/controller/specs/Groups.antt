-- The groups of the signs that are attached, sign 1 first.
use Rattle.std.specs.Prelude.{ℕ, ◌-◌, cond, List, length, Some, None, Option, slice_index}
use Rattle.rack.specs.Face.{has}

abbrev pub group_in : List ℕ → ℕ → Option ℕ
group_in groups sign = cond (has (length groups) sign) (Some (slice_index groups (sign - 1))) None
