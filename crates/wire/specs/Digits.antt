-- Digits: ASCII 0 to 9 and A to F, capitals only; a byte is two digits, the high digit first.
use Rattle.std.specs.Prelude.{◌≡◌, ℕ, ◌+◌, ◌-◌, ◌*◌, ◌/◌, ◌%◌, cond, List, [], ◌∷◌, Some, None, Option, option_and_then, nat_lt}

unfoldable pub digit_of : ℕ → ℕ
digit_of v = cond (nat_lt v 10) (48 + v) (55 + v)

unfoldable pub digit_value : ℕ → Option ℕ
digit_value d = cond (nat_lt d 48) None (cond (nat_lt d 58) (Some (d - 48)) (cond (nat_lt d 65) None (cond (nat_lt d 71) (Some (d - 55)) None)))

infixl 10 ◌>>=◌
abbrev pub ◌>>=◌ : {A B : Type 0} → Option A → (A → Option B) → Option B
o >>= f = option_and_then f o

-- the byte that two digits spell
abbrev pub byte_value : ℕ → ℕ → Option ℕ
byte_value h l = do
  x ← digit_value h
  y ← digit_value l
  Some (x * 16 + y)

-- what two digits spell has those digits
abbrev pub Spelled : ℕ → ℕ → Option ℕ → Type 0
Spelled h l None = Unit {0}
Spelled h l (Some b) = (digit_of (b / 16) ≡ h) × (digit_of (b % 16) ≡ l)

-- bytes in digits
abbrev pub in_digits : List ℕ → List ℕ
in_digits [] = []
in_digits (b ∷ bs) = digit_of (b / 16) ∷ digit_of (b % 16) ∷ in_digits bs

-- a word as two bytes, high byte first
abbrev pub bytes_of : ℕ → List ℕ
bytes_of w = w / 256 ∷ w % 256 ∷ []

-- the bytes that digits spell
abbrev pub from_digits : List ℕ → Option (List ℕ)
from_digits [] = Some []
from_digits (h ∷ []) = None
from_digits (h ∷ (l ∷ ds)) = do
  b ← byte_value h l
  bs ← from_digits ds
  Some (b ∷ bs)
