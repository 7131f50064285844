-- Laws of the digits: what is spelled is read, and what is read is spelled so.
use Rattle.std.proofs.Common.{◌≡◌, ℕ, ◌/◌, ◌%◌, ◌<◌, ◌≤◌, List, [], ◌∷◌, ◌++◌, length, get_or, drop, Some, None, Option, sym, refl, ap, ◌∙◌, subst, arith}
use Rattle.std.proofs.lemmas.Bool.Decides.{nat_tests}
use Rattle.std.specs.List.{AllByRecursion}
use Rattle.std.specs.Option.{option_map}
use Rattle.std.proofs.lemmas.List.{append_assoc}
use Rattle.std.proofs.lemmas.Option.{option_and_then_some, same_Some}
use Rattle.wire.specs.Digits.{digit_of, digit_value, byte_value, in_digits, from_digits, ◌>>=◌}

pub value-digit : (v : ℕ) → v < 16 → digit_value (digit_of v) ≡ Some v
unfolding digit_value digit_of
value-digit v h = grind (arith, nat_tests)

pub pair_value : (b : ℕ) → b < 256 → byte_value (digit_of (b / 16)) (digit_of (b % 16)) ≡ Some b
pair_value b h = simp (value-digit (b / 16) (omega arith), value-digit (b % 16) (omega arith)) (ap Some (omega arith))

-- what two digits that write a byte tell
pub record Pair (h l b : ℕ) : Type 0 where
  pub high : digit_of (b / 16) ≡ h
  pub low : digit_of (b % 16) ≡ l
  pub small : b < 256

pub value-pair : (h l b : ℕ) → byte_value h l ≡ Some b → Pair h l b
unfolding digit_value digit_of
value-pair h l b e = record { high = grind (arith, nat_tests); low = grind (arith, nat_tests); small = grind (arith, nat_tests) }

pub from_digits-in_digits : (m : List ℕ) → AllByRecursion (λ b. b < 256) m → from_digits (in_digits m) ≡ Some m
from_digits-in_digits [] a = refl
from_digits-in_digits (b ∷ m) a = simp (pair_value b a.0, from_digits-in_digits m a.1)

pub record Spelling (ds m : List ℕ) : Type 0 where
  pub digits : in_digits m ≡ ds
  pub small : AllByRecursion (λ b. b < 256) m

pub in_digits-from_digits : (ds m : List ℕ) → from_digits ds ≡ Some m → Spelling ds m
in_digits-from_digits [] m e = let k : [] ≡ m = cc in subst (λ (n : List ℕ). Spelling [] n) k (record { digits = refl; small = tt })
in_digits-from_digits (h ∷ []) m e = absurd cc
in_digits-from_digits (h ∷ (l ∷ ds)) m e =
    option_and_then_some _ (byte_value h l) m e (λ b f g.
    option_and_then_some _ (from_digits ds) m g (λ bs i k.
    let r = value-pair h l b f in
    let s = in_digits-from_digits ds bs i in
    subst (λ (n : List ℕ). Spelling (h ∷ (l ∷ ds)) n) (same_Some _ _ k) (record { digits = cc; small = (r.small, s.small) })))

put-first : (bs : List ℕ) (b : ℕ) (o : Option (List ℕ)) → option_map (λ rest. bs ++ rest) (o >>= λ rest. Some (b ∷ rest)) ≡ option_map (λ rest. (bs ++ b ∷ []) ++ rest) o
put-first bs b None = refl
put-first bs b (Some rest) = ap Some (sym (append_assoc bs (b ∷ []) rest))

-- two digits more
pub from_digits-more : (ds bs left : List ℕ) (b : ℕ) → 2 ≤ length left → from_digits ds ≡ option_map (λ rest. bs ++ rest) (from_digits left)
    → Some b ≡ byte_value (get_or left 0 0) (get_or left 1 0) → from_digits ds ≡ option_map (λ rest. (bs ++ b ∷ []) ++ rest) (from_digits (drop 2 left))
from_digits-more ds bs [] b h e g = absurd (omega arith)
from_digits-more ds bs (x ∷ []) b h e g = absurd (omega arith)
from_digits-more ds bs (x ∷ (y ∷ left)) b h e g =
    e ∙ ap (λ (o : Option ℕ). option_map (λ (rest : List ℕ). bs ++ rest) (o >>= λ c. from_digits left >>= λ rest. Some (c ∷ rest))) (sym g) ∙ put-first bs b (from_digits left)
