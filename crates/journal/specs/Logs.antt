-- A log of at most `bound` entries at the front of a memory, newest first. Assumes nothing.
use Rattle.std.proofs.Common.{arith}
use Rattle.std.specs.Prelude.{◌≡◌, ℕ, ◌+◌, min, cond, List, ◌∷◌, ◌++◌, take, drop, Ok, Err, Result, nat_le}
use Rattle.journal.specs.declared.Journal.{Journal}
use Rattle.journal.specs.declared.Refusal.{Refusal}
use Rattle.journal.specs.declared.Refusal.TheVariants.{ShortMemory}

-- the answer to a call that is lent this much memory
abbrev pub judged : ℕ → ℕ → Result (Unit {0}) Refusal
judged bound lent = cond (nat_le bound lent) (Ok tt) (Err ShortMemory)

-- the number of a refusal
abbrev pub refusal_number : Refusal → ℕ
refusal_number ShortMemory = 0x52

module _ {bound : ℕ} where
  abbrev pub empty : Journal bound
  empty = record { count = 0; few = omega arith }

  -- how many entries the log has
  abbrev pub kept : Journal bound → ℕ
  kept log = log.count

  -- the bookkeeping after one more
  abbrev pub grown : Journal bound → Journal bound
  grown log = record { count = min (kept log + 1) bound; few = omega arith }

module _ {bound : ℕ} {E : Type 0} where
  -- the entries, newest first
  abbrev pub listed : Journal bound → List E → List E
  listed log memory = take (kept log) memory

  -- the memory after one more: the newest retires the oldest where the log is full, and what stands behind the log stays
  abbrev pub written : Journal bound → E → List E → List E
  written log newest memory = take bound (newest ∷ listed log memory) ++ drop (kept (grown log)) memory

-- logs of as many entries are equal all through
abbrev pub Alike : ℕ → Type 0
Alike bound = (a b : Journal bound) → kept a ≡ kept b → a ≡ b
