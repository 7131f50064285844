-- What `array::from_fn` and an array's `map` make, by a closure that computes a function and stays as it is.
use Rattle.std.proofs.Common.{◌≡◌, ℕ, zero, suc, ◌+◌, ◌<◌, ◌≤◌, List, map, length, get_or, sym, ap, ◌∙◌, subst, ⊎_elim, arith}
use Rattle.std.proofs.lemmas.Bool.{cases_eq}
use Rattle.std.proofs.lemmas.List.{same_lists, get_or-map, length-map}
use Rattle.std.proofs.lemmas.List.FromFn.{fill_by_all}
use Rattle.std.specs.Array.{IsFromFnResultFrom, IsFromFnResult, MapsFrom, IsMapOf}
use Rattle.std.specs.Fn.{Called}
use Rattle.std.specs.List.{range_with_len}
use denote.Param.Members.{Mut}

module _ {F B : Type 0} (g : Mut F (ℕ × Unit {0}) B) (h : ℕ → B) (f : F) (ys : List B) (k : (x : ℕ) (y : B) (q : F) → Called g f (x, tt) y q → (q ≡ f) × (y ≡ h x)) where
  made_at : (n i : ℕ) (d : B) → IsFromFnResultFrom g f ys i n → (j : ℕ) → i ≤ j → j < i + n → get_or ys j d ≡ h j
  made_at zero i d m j l u = absurd (omega arith)
  made_at (suc n) i d m j l u =
      let s = k i m.1 m.0 m.3 in
      ⊎_elim
      (λ e. ap (λ (p : ℕ). get_or ys p d) e ∙ m.2.1 d ∙ s.1 ∙ ap h (omega arith))
      (λ ne. made_at n (i + 1) d (subst (λ q. IsFromFnResultFrom g q ys (i + 1) n) s.0 m.4) j (omega arith) (omega arith))
      (cases_eq j i)

  pub made : (n : ℕ) (d : B) → IsFromFnResult g f ys n → ys ≡ map h (range_with_len 0 n)
  made n d m = fill_by_all h ys n d m.long (λ j l. made_at n 0 d m.each j (omega arith) (omega arith))

module _ {F A B : Type 0} (g : Mut F (A × Unit {0}) B) (v : A → B) (f : F) (xs : List A) (ys : List B) (k : (x : A) (y : B) (q : F) → Called g f (x, tt) y q → (q ≡ f) × (y ≡ v x)) where
  mapped_at : (n i : ℕ) (d : A) (e : B) → MapsFrom g f xs ys i n → (j : ℕ) → i ≤ j → j < i + n → get_or ys j e ≡ v (get_or xs j d)
  mapped_at zero i d e m j l u = absurd (omega arith)
  mapped_at (suc n) i d e m j l u =
      let s = k m.1 m.2 m.0 m.5 in
      ⊎_elim
      (λ p. ap (λ (o : ℕ). get_or ys o e) p ∙ m.4.1 e ∙ s.1 ∙ ap v (sym (m.3.1 d)) ∙ ap (λ (o : ℕ). v (get_or xs o d)) (sym p))
      (λ ne. mapped_at n (i + 1) d e (subst (λ q. MapsFrom g q xs ys (i + 1) n) s.0 m.6) j (omega arith) (omega arith))
      (cases_eq j i)

  pub mapped : (n : ℕ) (d : A) → IsMapOf g f xs ys n → length xs ≡ n → ys ≡ map v xs
  mapped n d m e =
      let l : length ys ≡ n = m.long in
      same_lists ys (map v xs) (simp length-map (omega arith))
      (λ j b h. mapped_at n 0 d b m.each j (omega arith) (omega arith) ∙ sym (get_or-map v xs j d b (omega arith)))
