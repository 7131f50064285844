-- The plans that are enabled in a group: their numbers in slots, in no order.
use Rattle.std.specs.Prelude.{◌≡◌, ℕ, zero, suc, ◌+◌, ◌<◌, min, Bool, true, false, cond, List, [], ◌∷◌, map, replicate, is_some, Some, None, Option, ◌==◌, nat_lt}
use Rattle.std.specs.List.{list_any, list_all, flat_map, filter, reduce}
use Rattle.std.specs.Option.{option_to_list}

abbrev pub no_plans : List (Option ℕ)
no_plans = replicate 8 None

-- a slot has a plan
abbrev pub holds : Option ℕ → ℕ → Bool
holds None n = false
holds (Some m) n = m == n

-- some slot has a plan
abbrev pub includes : List (Option ℕ) → ℕ → Bool
includes xs n = list_any (λ x. holds x n) xs

-- no slot is free
abbrev pub full : List (Option ℕ) → Bool
full xs = list_all is_some xs

-- a plan in the first free slot
abbrev pub put : List (Option ℕ) → ℕ → List (Option ℕ)
put [] n = []
put (None ∷ xs) n = Some n ∷ xs
put (Some m ∷ xs) n = Some m ∷ put xs n

-- a plan that is enabled already is not put again
abbrev pub including : List (Option ℕ) → ℕ → List (Option ℕ)
including xs n = cond (includes xs n) xs (put xs n)

abbrev pub cleared : ℕ → Option ℕ → Option ℕ
cleared n x = cond (holds x n) None x

-- no slot has the plan, and every other plan stays
abbrev pub without : List (Option ℕ) → ℕ → List (Option ℕ)
without xs n = map (cleared n) xs

-- the least plan above n
abbrev pub next_above : List (Option ℕ) → ℕ → Option ℕ
next_above xs n = reduce min (filter (λ m. nat_lt n m) (flat_map option_to_list xs))

-- the enabled plans among the k numbers that follow n, rising
unfoldable pub enabled_after : List (Option ℕ) → ℕ → ℕ → List ℕ
enabled_after xs n zero = []
enabled_after xs n (suc k) = cond (includes xs (n + 1)) ((n + 1) ∷ enabled_after xs (n + 1) k) (enabled_after xs (n + 1) k)

-- the enabled plans, rising: those of the numbers 1 to 255 that some slot has
unfoldable pub rising : List (Option ℕ) → List ℕ
rising xs = enabled_after xs 0 255

-- A plan is enabled if it was, or if a slot was free; every other plan is as before.
abbrev pub Joins : List (Option ℕ) → ℕ → List (Option ℕ) → Type 0
Joins before n after = (m : ℕ) → includes after m ≡ cond (m == n) (cond (full before) (includes before n) true) (includes before m)

-- A plan is not enabled; every other plan is as before.
abbrev pub Leaves : List (Option ℕ) → ℕ → List (Option ℕ) → Type 0
Leaves before n after = (m : ℕ) → includes after m ≡ cond (m == n) false (includes before m)

-- The enabled plan that follows n, if there is one.
abbrev pub Follows : List (Option ℕ) → ℕ → Option ℕ → Type 0
Follows xs n None = (m : ℕ) → n < m → includes xs m ≡ false
Follows xs n (Some p) = (n < p) × (includes xs p ≡ true) × ((m : ℕ) → n < m → m < p → includes xs m ≡ false)
