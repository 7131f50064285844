use Rattle.std.proofs.Common.{ℕ, ◌*◌, rules}
use Rattle.records.specs.Slots.{bits_of, summary_bits}
use Rattle.records.proofs.Arrays.{made}
use Rattle.records.proofs.slots.summary.Goals as goal

pub returns : goal.returns
unfolding summary_bits
returns g c = made _ (λ (place : ℕ). bits_of c.args.slots.now (place * 8)) _ c.from_fn.result (λ x y q t. search rules) 32 0 c.from_fn.ensures.items
