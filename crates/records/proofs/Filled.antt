-- A chain through `flatten` over a list of options, by reference: it gives what they hold, in order.
use Rattle.std.proofs.Common.{◌≡◌, ◌≤◌, Bool, true, false, cond, List, [], ◌∷◌, length, Some, None, Option, sym, ap, ◌∙◌}
use Rattle.std.proofs.iter.Yields.{fronts}
use Rattle.std.proofs.lemmas.Iterator.{YieldsList, YieldsList-from_slice}
use Rattle.std.proofs.lemmas.Iterator.Adapters.{YieldsList-from_flatten}
use Rattle.std.proofs.lemmas.Iterator.Consumers.{YieldsList-from_shown}
use Rattle.std.specs.Bool.{MatchBool}
use Rattle.std.specs.Borrow.{Bor}
use Rattle.std.specs.Iterator.Adapters.{flatten_source, flatten_front, flatten_back, flatten_done, flatten_steps, option_iter_item, option_iter_done, option_iter_steps, OptionIterYieldsItsItem}
use Rattle.std.specs.List.{flat_map}
use Rattle.std.specs.Option.{option_to_list, option_len}
use Rattle.std.specs.Slice.Iter.{iter_rest}
use Rattle.std.specs.declared.iter.Flatten.{Flatten}
use Rattle.std.specs.declared.option.Iter.{OptionIter}
use Rattle.std.specs.declared.slice.Iter.{Iter}

module _ {X : Type 0} where
  -- what an option is turned into
  abbrev Opens : Bor (Option X) → OptionIter X → Type 0
  Opens s r = (option_iter_item r ≡ s.now) × (option_iter_done r ≡ false) × (cond (option_iter_done r) 0 (option_len (option_iter_item r)) ≤ 1) × OptionIterYieldsItsItem X

  abbrev left : OptionIter X → List X
  left s = cond (option_iter_done s) [] (option_to_list (option_iter_item s))

  nothing : (done : Bool) (o : Option X) → MatchBool done (◌≡◌ {A = Option (Bor X)} None None) (None ≡ o) → length (cond done [] (option_to_list o)) ≡ 0
  nothing true o h = cc
  nothing false o h = cc

  one : (done : Bool) (o : Option X) (x : Bor X) → MatchBool done (◌≡◌ {A = Option (Bor X)} (Some x) None) (Some x.now ≡ o) → cond done [] (option_to_list o) ≡ x.now ∷ []
  one true o x h = cc
  one false o x h = cc

  held : (s : OptionIter X) → YieldsList option_iter_steps (λ y. y.now) s (left s)
  held s = YieldsList-from_shown option_iter_steps (λ y. y.now) left
      (λ u t h. nothing (option_iter_done u) (option_iter_item u) h.1)
      (λ u x t h. one (option_iter_done u) (option_iter_item u) x h.1 ∙ ap (λ b. x.now ∷ cond b [] (option_to_list (option_iter_item t))) (sym h.0))
      s

  opened : (x : Bor (Option X)) (j : OptionIter X) → Opens x j → YieldsList option_iter_steps (λ y. y.now) j (option_to_list x.now)
  opened x j h = let h₀ = h.0 in let h₁ = h.1 in let e : left j ≡ option_to_list x.now = cc in rw (← e) (held j)

  pub filled_road : {s : Flatten (Iter (Option X)) (OptionIter X)} (xs : List (Option X)) → iter_rest (flatten_source s) ≡ xs
      → flatten_front s ≡ None → flatten_back s ≡ None → flatten_done s ≡ false
      → YieldsList (flatten_steps fronts Opens option_iter_steps) (λ y. y.now) s (flat_map option_to_list xs)
  filled_road xs rest = YieldsList-from_flatten Opens option_iter_steps (λ y. y.now) option_to_list opened (YieldsList-from_slice xs rest)
