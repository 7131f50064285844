use Rattle.std.proofs.Common.{◌≡◌, ℕ, ◌+◌, ◌-◌, ◌<◌, List, length, drop, arith, ap, refl}
use Rattle.std.proofs.lemmas.List.{drop-set-lt, drop-drop, drop-replicate}
use Rattle.std.specs.Prelude.{replicate, slice_set}
use Rattle.octets.proofs.octets.Octets.push.Goals as goal

-- with one byte more, the bytes behind those in use are still 0
one-more : (most used : ℕ) (bs : List ℕ) (b : ℕ) → used < most → length bs ≡ most → drop used bs ≡ replicate (most - used) 0
    → drop (used + 1) (slice_set bs used b) ≡ replicate (most - (used + 1)) 0
one-more most used bs b fits full zeros =
    let behind : drop (used + 1) (slice_set bs used b) ≡ replicate (most - used - 1) 0 =
    simp (drop-set-lt (used + 1) bs used b (omega arith), ← drop-drop 1 used bs, zeros, drop-replicate {X = ℕ} 1 (most - used) 0) refl in
    rw behind (ap (λ n. replicate n 0) (omega arith))

pub invariant_of-self-clause-blank : goal.invariant_of-self-clause-blank
invariant_of-self-clause-blank g c = one-more _ _ _ _ c.if-used.true c.args.self.now.long c.args.self.now.blank
