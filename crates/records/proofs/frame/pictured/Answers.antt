use Rattle.std.proofs.Common.{◌≡◌, ℕ, ◌-◌, List, ◌++◌, length, take, drop, replicate, ap, arith}
use Rattle.std.proofs.lemmas.List.{drop-replicate, take_min}
use Rattle.records.proofs.frame.pictured.Goals as goal
use Rattle.std.specs.Prelude.{min}

-- as many as a picture keeps
same : (xs : List ℕ) (k : ℕ) → k ≡ min (length xs) 128 → take k xs ≡ take 128 xs
same xs k e = rw (← take_min 128 xs) (ap (λ n. take n xs) (omega (arith, e)))

padded : (xs ys : List ℕ) → ys ≡ xs → ys ++ drop (length xs) (replicate 128 0) ≡ xs ++ replicate (128 - length xs) 0
padded xs ys e = let d = drop-replicate {X = ℕ} (length xs) 128 0 in rw (e, d)

pub returns-clause-picture : goal.returns-clause-picture
returns-clause-picture c =
    let e = same c.args.bytes.now c.min.result c.min.ensures in
    let p = padded (take c.min.result c.args.bytes.now) c.copy_from_slice.new.self c.copy_from_slice.ensures.after in
    rw (← e) p

pub returns-clause-count : goal.returns-clause-count
returns-clause-count c = ap length (same c.args.bytes.now c.min.result c.min.ensures)
