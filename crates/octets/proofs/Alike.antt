-- Stretches of the same bytes are equal all through.
use Rattle.std.proofs.Common.{◌≡◌, ℕ, ◌-◌, ◌≤◌, List, ◌++◌, length, take, drop, refl, sym, ap, ◌∙◌, arith}
use Rattle.std.proofs.lemmas.List.{length-take-le, take-append-drop, take_at}
use Rattle.std.proofs.Math.Nat.{ℕ_set}
use Rattle.std.specs.Coded.{Coded-set, coded_list, coded_ℕ, le_prop}
use mathlib.Core.HLevel.{is_prop→PathP}
use Rattle.std.specs.Prelude.{replicate}
use Rattle.octets.specs.Held.{held, stretch, Alike}
use Rattle.octets.specs.Room.{room}
use Rattle.octets.specs.declared.octets.Octets.{Octets}

-- it counts the bytes that it holds
counts : {most : ℕ} (o : Octets most) → length (held o) ≡ o.used
counts {most} o = length-take-le o.used o.bytes (omega (arith, o.fits, o.long))

-- its memory is what it holds, and zeros
memory : {most : ℕ} (o : Octets most) → held o ++ replicate (most - length (held o)) 0 ≡ o.bytes
memory {most} o = rw (counts o, ← o.blank) (take-append-drop o.used o.bytes)

same-parts : {most : ℕ} (a b : Octets most) → a.bytes ≡ b.bytes → a.used ≡ b.used → a ≡ b
same-parts {most} a b p q = λ i. record {
  bytes = p i;
  used = q i;
  long = is_prop→PathP (λ j. length (p j) ≡ most) (λ j. ℕ_set _ _) a.long b.long i;
  fits = is_prop→PathP (λ j. q j ≤ room most) (λ j. le_prop) a.fits b.fits i;
  blank = is_prop→PathP (λ j. drop (q j) (p j) ≡ replicate (most - q j) 0) (λ j. Coded-set (coded_list coded_ℕ) _ _) a.blank b.blank i;
}

pub alike : {most : ℕ} → Alike most
alike {most} a b e =
    let n : a.used ≡ b.used = sym (counts a) ∙ ap length e ∙ counts b in
    let m : a.bytes ≡ b.bytes = sym (memory a) ∙ ap (λ xs. xs ++ replicate (most - length xs) 0) e ∙ memory b in
    same-parts a b m n

-- a stretch holds as many of its bytes as fit
pub held-stretch : (most : ℕ) (xs : List ℕ) → held (stretch most xs) ≡ take (room most) xs
unfolding stretch
held-stretch most xs = take_at _ _ _ refl

-- so a stretch that holds them is that of the bytes
pub stretched : {most : ℕ} (o : Octets most) (xs : List ℕ) → held o ≡ take (room most) xs → o ≡ stretch most xs
stretched {most} o xs e = alike o (stretch most xs) (e ∙ sym (held-stretch most xs))
