-- The steps of the loop that writes a listing, and what is read back of one.
use Rattle.std.proofs.Common.{◌≡◌, ℕ, ◌+◌, ◌-◌, ◌*◌, ◌/◌, ◌<◌, ◌≤◌, List, [], ◌∷◌, ◌++◌, length, get_or, take, drop, Some, None, Option, refl, ap, ◌∙◌, arith, length-drop, length-take-le}
use Rattle.std.proofs.lemmas.Bool.Decides.{nat_tests}
use Rattle.std.proofs.lemmas.List.{append-nil, length-append, take_more, take_all, drop-drop, take-append-drop, flat_map_more}
use Rattle.std.specs.List.{flat_map}
use Rattle.std.specs.Option.{option_to_list, unwrap_or}
use Rattle.commands.specs.declared.command.Header.{Header}
use Rattle.records.specs.Slots.{kept, entry_bytes, entry_of, listing, listing_room, listing_laid}

module _ {R : Type 0} where
  pub few : (slots : List (Option R)) → length (kept slots) ≤ length slots
  few [] = omega arith
  few (None ∷ xs) = omega (arith, few xs)
  few (Some r ∷ xs) = omega (arith, few xs)

  module _ (header : R → Header) where
    entries_long : (rs : List R) → length (flat_map (entry_of header) rs) ≡ 3 * length rs
    entries_long [] = refl
    entries_long (r ∷ rs) = omega (arith, entries_long rs)

    -- the entries of what is kept in the first i slots are written, so many of them, and the rest is untouched
    abbrev pub Listed : List (Option R) → List ℕ → List ℕ → ℕ → ℕ → Type 0
    Listed slots first out count i = (count ≡ length (kept (take i slots)))
        × (take (3 * count) out ≡ flat_map (entry_of header) (kept (take i slots))) × (drop (3 * count) out ≡ drop (3 * count) first)

    kept_more : (slots : List (Option R)) (i : ℕ) (x : Option R) → i < length slots → x ≡ get_or slots i x
        → kept (take (i + 1) slots) ≡ kept (take i slots) ++ option_to_list x
    kept_more slots i x h is = let m = take_more slots i x h in let j = flat_map_more option_to_list [] (take i slots) x in cc

    pub listed_more : (slots : List (Option R)) (first out out' : List ℕ) (count count' i : ℕ) (x : Option R) (r : R) → i < length slots → x ≡ get_or slots i x
        → x ≡ Some r → count' ≡ count + 1 → take (3 * (count + 1)) out' ≡ take (3 * count) out ++ entry_bytes (header r)
        → drop (3 * (count + 1)) out' ≡ drop (3 * (count + 1)) out → Listed slots first out count i → Listed slots first out' count' (i + 1)
    listed_more slots first out out' count count' i x r h is some e t d inv =
        let n = inv.0 in let f = inv.1 in let b = inv.2 in
        let k : kept (take (i + 1) slots) ≡ kept (take i slots) ++ r ∷ [] = kept_more slots i x h is ∙ ap (λ y. kept (take i slots) ++ option_to_list y) some in
        let j = flat_map_more (entry_of header) [] (kept (take i slots)) r in
        let l = length-append (kept (take i slots)) (r ∷ []) in
        let p = drop-drop 3 (3 * count) out in
        let q = drop-drop 3 (3 * count) first in
        let s : 3 * count + 3 ≡ 3 * (count + 1) = omega arith in
        rw (e, k) (omega (arith, n, l), cc, cc)

    pub listed_on : (slots : List (Option R)) (first out out' : List ℕ) (count count' i : ℕ) (x : Option R) → i < length slots → x ≡ get_or slots i x
        → x ≡ None → out' ≡ out → count' ≡ count → Listed slots first out count i → Listed slots first out' count' (i + 1)
    listed_on slots first out out' count count' i x h is none o e inv =
        let k : kept (take (i + 1) slots) ≡ kept (take i slots) = kept_more slots i x h is ∙ ap (λ y. kept (take i slots) ++ option_to_list y) none ∙ append-nil (kept (take i slots)) in
        rw (o, e, k) inv

    pub all_listed : (slots : List (Option R)) (first out : List ℕ) (count i : ℕ) → length slots ≤ i → length slots ≤ length first / 3
        → Listed slots first out count i → (Some (3 * count) ≡ listing_room header slots first) × (out ≡ listing_laid header slots first)
    unfolding listing
    all_listed slots first out count i all h inv =
        let whole : take i slots ≡ slots = take_all i slots all in
        let n : count ≡ length (kept slots) = rw (whole) at inv.0 in
        let f : take (3 * count) out ≡ flat_map (entry_of header) (kept slots) = rw (whole) at inv.1 in
        let b = inv.2 in
        let l : length (listing header slots) ≡ 3 * count = omega (arith, entries_long (kept slots), n) in
        let x = take-append-drop (3 * count) out in
        let o : out ≡ listing header slots ++ drop (length (listing header slots)) first = cc in
        (grind (arith, nat_tests), grind (arith, nat_tests))

    -- a full store's slots are listed where there is room for as many entries
    pub listed_whole : (slots : List (Option R)) (out : List ℕ) → length slots ≡ 255 → 765 ≤ length out
        → (unwrap_or (listing_room header slots out) 0 ≡ length (listing header slots)) × (length (listing header slots) ≤ 765)
        × (listing_laid header slots out ≡ listing header slots ++ drop (length (listing header slots)) out)
    unfolding listing
    listed_whole slots out s n =
        let l = entries_long (kept slots) in
        let k = few slots in
        (grind (arith, nat_tests), omega arith, grind (arith, nat_tests))

    -- so are they behind what stands before a place of a longer memory
    pub listed_behind : (slots : List (Option R)) (from : ℕ) (out : List ℕ) → length slots ≡ 255 → from + 765 ≤ length out
        → (unwrap_or (listing_room header slots (take (length out - from) (drop from out))) 0 ≡ length (listing header slots))
        × (length (listing header slots) ≤ 765)
        × (listing_laid header slots (take (length out - from) (drop from out))
        ≡ listing header slots ++ drop (length (listing header slots)) (take (length out - from) (drop from out)))
    listed_behind slots from out s n =
        let long = length-drop from out in
        let lent : length (take (length out - from) (drop from out)) ≡ length out - from = length-take-le (length out - from) (drop from out) (omega (arith, long)) in
        listed_whole slots (take (length out - from) (drop from out)) s (omega (arith, lent, n))
