-- Why a listing rises, and has each stored number once.
use Rattle.std.proofs.Common.{◌≡◌, ℕ, suc, ◌+◌, ◌-◌, ◌≤◌, cond, leb, List, [], ◌∷◌, get_or, is_some, Some, None, Option, refl, ap, ◌∙◌, add-one, arith}
use Rattle.std.proofs.lemmas.Bool.Decides.{nat_tests}
use Rattle.std.proofs.lemmas.Grind.{get_or_head, get_or_tail}
use Rattle.std.proofs.lemmas.List.{get_or_past}
use Rattle.commands.specs.declared.command.Header.{Header}
use Rattle.records.specs.Slots.{slot_of, kept, Numbered, RisingFrom, among, Rising}

module _ {R : Type 0} (header : R → Header) where
  -- each record of the slots from n on stands under its own number
  abbrev From : ℕ → List (Option R) → Type 0
  From n xs = (k : ℕ) (r : R) → get_or xs k None ≡ Some r → (header r).number ≡ n + k + 1

  from_tail : (n : ℕ) (x : Option R) (xs : List (Option R)) → From n (x ∷ xs) → From (n + 1) xs
  from_tail n x xs h k r e = let z = h (suc k) r e in omega (arith, add-one k)

  from_head : (n : ℕ) (r : R) (xs : List (Option R)) → From n (Some r ∷ xs) → (header r).number ≡ n + 1
  from_head n r xs h = let z = h 0 r refl in omega arith

  rises : (xs : List (Option R)) (n m : ℕ) → m ≤ n → From n xs → RisingFrom header m (kept xs)
  rises [] n m l h = tt
  rises (None ∷ xs) n m l h = rises xs (n + 1) m (omega arith) (from_tail n None xs h)
  rises (Some r ∷ xs) n m l h =
      let e = from_head n r xs h in
      (omega arith, rises xs (n + 1) (header r).number (omega arith) (from_tail n (Some r) xs h))

  -- what stands under the number m, the slots counting from n
  abbrev under : ℕ → List (Option R) → ℕ → Option R
  under n xs m = cond (leb (n + 1) m) (get_or xs (m - (n + 1)) None) None

  under_more : (n m : ℕ) (x : Option R) (xs : List (Option R)) → (m ≡ n + 1 → ⊥) → under n (x ∷ xs) m ≡ under (n + 1) xs m
  under_more n m x xs ne = grind (arith, nat_tests, get_or_tail)

  under_here : (n m : ℕ) (x : Option R) (xs : List (Option R)) → m ≡ n + 1 → under n (x ∷ xs) m ≡ x
  under_here n m x xs e = grind (arith, nat_tests, get_or_head)

  under_slot : (xs : List (Option R)) (m : ℕ) → under 0 xs m ≡ slot_of xs m
  under_slot xs m = let z = get_or_past xs (m - 1) None in grind (arith, nat_tests)

  among_is : (xs : List (Option R)) (n m : ℕ) → From n xs → among header m (kept xs) ≡ is_some (under n xs m)
  among_is [] n m h = grind (arith, nat_tests)
  among_is (None ∷ xs) n m h =
      let i = among_is xs (n + 1) m (from_tail n None xs h) in
      let a = under_here n m None xs in let b = under_more n m None xs in grind (arith, nat_tests)
  among_is (Some r ∷ xs) n m h =
      let i = among_is xs (n + 1) m (from_tail n (Some r) xs h) in
      let e = from_head n r xs h in
      let a = under_here n m (Some r) xs in let b = under_more n m (Some r) xs in grind (arith, nat_tests)

  pub rising : (xs : List (Option R)) → Numbered header xs → Rising header xs
  rising xs h =
      let f : From 0 xs = λ k r e. let z = h k r e in omega arith in
      (rises xs 0 0 (omega arith) f, λ n. among_is xs 0 n f ∙ ap is_some (under_slot xs n))
