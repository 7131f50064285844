-- What one copy of bytes behind those in use leaves: they follow, as many as fit, and the rest is 0 still.
use Rattle.std.proofs.Common.{◌≡◌, ℕ, ◌+◌, ◌-◌, ◌≤◌, List, ◌++◌, length, take, drop, arith, ap, refl, length-take-le}
use Rattle.std.proofs.Math.Seq.{take-append-add}
use Rattle.std.proofs.lemmas.List.{drop-drop, drop-replicate, take_min}
use Rattle.std.proofs.lemmas.Slice.{drop-put_mid, take-put_mid}
use Rattle.std.proofs.lemmas.Grind.{common_steps}
use Rattle.std.specs.Prelude.{replicate, min}
use borrow.Rule.Slice.PartMut.{put_mid}

-- as many bytes as fit follow those in use
pub follow : (most used k : ℕ) (bs xs : List ℕ) → used ≤ most → used ≤ length bs → k ≡ min (length xs) (most - used)
    → take (used + length (take k xs)) (put_mid used (used + length (take k xs) - used) bs (take k xs)) ≡ take most (take used bs ++ xs)
follow most used k bs xs fits held e =
    let before : length (take used bs) ≡ used = length-take-le used bs held in
    let more : take k xs ≡ take (most - used) xs = rw (← take_min (most - used) xs) (ap (λ n. take n xs) (omega (arith, e))) in
    let both : take (length (take used bs) + (most - used)) (take used bs ++ xs) ≡ take used bs ++ take (most - used) xs =
    take-append-add (take used bs) xs (most - used) in
    let all : length (take used bs) + (most - used) ≡ most = omega (arith, before, fits) in
    let left : take (used + length (take k xs)) (put_mid used (used + length (take k xs) - used) bs (take k xs)) ≡ take used bs ++ take k xs =
    take-put_mid used (used + length (take k xs) - used) bs (take k xs) (used + length (take k xs)) refl held in
    rw (left, more, ← both, all) refl

-- behind them the memory is as it was, 0
pub behind : (most used : ℕ) (bs ys : List ℕ) → used ≤ length bs → drop used bs ≡ replicate (most - used) 0 → length ys ≤ most - used
    → drop (used + length ys) (put_mid used (used + length ys - used) bs ys) ≡ replicate (most - (used + length ys)) 0
behind most used bs ys held zeros fits =
    let same : drop (used + length ys) (put_mid used (used + length ys - used) bs ys) ≡ drop (used + length ys) bs =
    drop-put_mid used (used + length ys - used) bs ys (used + length ys) (omega arith) held (omega arith) in
    let split : drop (length ys) (drop used bs) ≡ drop (used + length ys) bs = drop-drop (length ys) used bs in
    let left : drop (length ys) (replicate {A = ℕ} (most - used) 0) ≡ replicate (most - used - length ys) 0 =
    drop-replicate {X = ℕ} (length ys) (most - used) 0 in
    rw (same, ← split, zeros, left) (ap (λ n. replicate n 0) (omega arith))

-- the memory keeps its length
pub long : (used : ℕ) (bs ys : List ℕ) → used + length ys ≤ length bs → length (put_mid used (used + length ys - used) bs ys) ≡ length bs
long used bs ys fits = grind (arith, common_steps)
