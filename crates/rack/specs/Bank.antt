-- The signs of a single rack: their numbers, their faces and what they take.
use Rattle.std.specs.Prelude.{ℕ, ◌+◌, ◌-◌, Bool, false, cond, List, length, Some, None, Ok, Err, Option, Result, nat_le, slice_get}
use Rattle.rack.specs.declared.look.Shape.{Shape}
use Rattle.rack.specs.declared.sign.Sign.{Sign}
use Rattle.rack.specs.declared.bank.SignRack.{SignRack}
use Rattle.rack.specs.declared.refusal.Refusal.{Refusal}
use Rattle.rack.specs.declared.refusal.Refusal.TheVariants.{ThirteenthSign, Unfit}
use Rattle.rack.specs.Face.{Face, dark, has}

-- Sign s of a list, whose first sign has the number 1.
abbrev pub numbered : {X : Type 0} → List X → ℕ → Option X
numbered xs s = cond (has (length xs) s) (slice_get xs (s - 1)) None

-- the face of a sign; a lacking sign is dark
abbrev pub sign_face : {K : Type 0} → Option (Sign K) → Face
sign_face None = dark
sign_face (Some g) = g.panel

module _ {K : Type 0} (admits : K → Shape → Bool) where
  -- what a sign takes, by its kind; a lacking sign takes nothing
  abbrev pub sign_takes : Option (Sign K) → Shape → Bool
  sign_takes None h = false
  sign_takes (Some g) h = admits g.kind h

  abbrev pub bank_takes : SignRack K → ℕ → Shape → Bool
  bank_takes r s h = sign_takes (numbered r.signs.items s) h

module _ {K : Type 0} where
  abbrev pub bank_count : SignRack K → ℕ
  bank_count r = length r.signs.items

  abbrev pub bank_face : SignRack K → ℕ → Face
  bank_face r s = sign_face (numbered r.signs.items s)

-- The answer to fitting one more sign to a rack of n signs: its number, or why not.
abbrev pub fitting : ℕ → Bool → Result ℕ Refusal
fitting n fit = cond (nat_le 12 n) (Err ThirteenthSign) (cond fit (Ok (n + 1)) (Err Unfit))
