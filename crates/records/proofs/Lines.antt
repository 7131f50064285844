-- The lines of a plan's entries, put together in bounded memory.
use Rattle.std.proofs.Common.{◌≡◌, ℕ, ◌+◌, ◌*◌, ◌<◌, List, [], ◌∷◌, ◌++◌, length, get_or, take, Some, None, Option, refl, arith, length-append, length-take}
use Rattle.std.proofs.lemmas.List.{take_more, take_all, flat_map_more}
use Rattle.std.specs.List.{flat_map}
use Rattle.records.specs.declared.plan.Entry.{Entry}
use Rattle.records.specs.declared.plan.Shows.{Shows}
use Rattle.records.specs.declared.plan.Shows.TheVariants.{Frame, Message}
use Rattle.records.specs.Plans.{line_of}

line_long : (x : Option Entry) → length (line_of x) ≡ 6
line_long None = refl
line_long (Some e) = elim e.shows as (λ (s : Shows). length (line_of (Some (record { shows = s; start = e.start; stop = e.stop }))) ≡ 6) [ Frame n ↦ refl | Message n ↦ refl ]

pub lines_long : (xs : List (Option Entry)) → length (flat_map line_of xs) ≡ 6 * length xs
lines_long [] = refl
lines_long (x ∷ xs) = omega (arith, length-append (line_of x) (flat_map line_of xs), line_long x, lines_long xs)

-- one line more
pub lines_more : (xs : List (Option Entry)) (i : ℕ) → length xs ≡ 6 → i < length xs
    → take 36 (flat_map line_of (take i xs) ++ line_of (get_or xs i None)) ≡ flat_map line_of (take (i + 1) xs)
lines_more xs i six h =
    let m = take_more xs i None h in
    let j = flat_map_more line_of [] (take i xs) (get_or xs i None) in
    let l = lines_long (take (i + 1) xs) in
    let a = take_all 36 (flat_map line_of (take (i + 1) xs)) (omega (arith, length-take (i + 1) xs)) in cc
