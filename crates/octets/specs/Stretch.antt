-- What a stretch of given bytes keeps: as many as fit, in a memory of its own length, with zeros behind them.
use Rattle.std.proofs.Common.{◌≡◌, ℕ, ◌-◌, ◌≤◌, List, ◌++◌, length, take, drop, arith, refl}
use Rattle.std.proofs.lemmas.List.{length-append, length-replicate, length-take, drop_at}
use Rattle.std.specs.Prelude.{replicate}
use Rattle.octets.specs.Room.{room}

pub short : (most : ℕ) (xs : List ℕ) → length (take (room most) xs) ≤ room most
short most xs = omega (arith, length-take (room most) xs)

pub whole : (most : ℕ) (xs : List ℕ) → length (take (room most) xs ++ replicate (most - length (take (room most) xs)) 0) ≡ most
whole most xs =
    let bs = take (room most) xs in
    omega (arith, short most xs, length-append bs (replicate (most - length bs) 0), length-replicate {A = ℕ} (most - length bs) 0)

pub zeros : (most : ℕ) (xs : List ℕ) → drop (length (take (room most) xs)) (take (room most) xs ++ replicate (most - length (take (room most) xs)) 0)
    ≡ replicate (most - length (take (room most) xs)) 0
zeros most xs = drop_at (take (room most) xs) (replicate (most - length (take (room most) xs)) 0) (length (take (room most) xs)) refl
