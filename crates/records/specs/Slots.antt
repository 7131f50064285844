-- A numbered store: the record of number n stands at slot n - 1.
use Rattle.std.specs.Prelude.{◌≡◌, ℕ, ◌+◌, ◌-◌, ◌*◌, ◌<◌, Bool, true, false, cond, List, [], ◌∷◌, ◌++◌, map, length, drop, is_some, Some, None, Option, ◌==◌, ◌≢◌, nat_le, slice_index_or, slice_set}
use Rattle.std.specs.List.{range_with_len, flat_map}
use Rattle.std.specs.Option.{option_to_list}
use Rattle.commands.specs.declared.command.Header.{Header}
use Rattle.records.specs.Writing.{word_bytes}

-- the number and the check word of a record
abbrev pub entry_bytes : Header → List ℕ
entry_bytes h = h.number ∷ word_bytes h.check

module _ {R : Type 0} where
  abbrev pub has_slot : List (Option R) → ℕ → Bool
  has_slot xs n = cond (nat_le 1 n) (nat_le n (length xs)) false

  abbrev pub slot_of : List (Option R) → ℕ → Option R
  slot_of xs n = cond (has_slot xs n) (slice_index_or xs (n - 1) None) None

  abbrev pub placed : List (Option R) → ℕ → R → List (Option R)
  placed xs n r = cond (has_slot xs n) (slice_set xs (n - 1) (Some r)) xs

  -- every other number has what it had
  abbrev pub Elsewhere : List (Option R) → List (Option R) → ℕ → Type 0
  Elsewhere before after n = (m : ℕ) → (m ≢ n) → slot_of after m ≡ slot_of before m

  -- the records that are kept, slot by slot
  abbrev pub kept : List (Option R) → List R
  kept xs = flat_map option_to_list xs

  module _ (header : R → Header) where
    -- each record stands under its own number
    abbrev pub Numbered : List (Option R) → Type 0
    Numbered xs = (k : ℕ) (r : R) → slice_index_or xs k None ≡ Some r → (header r).number ≡ k + 1

    -- numbers that rise, all above n
    abbrev pub RisingFrom : ℕ → List R → Type 0
    RisingFrom n [] = Unit {0}
    RisingFrom n (r ∷ rs) = (n < (header r).number) × RisingFrom (header r).number rs

    -- whether a number is among those of the records
    abbrev pub among : ℕ → List R → Bool
    among n [] = false
    among n (r ∷ rs) = cond ((header r).number == n) true (among n rs)

    -- the kept records rise by number, and a number is among theirs exactly if it is stored
    abbrev pub Rising : List (Option R) → Type 0
    Rising xs = RisingFrom 0 (kept xs) × ((n : ℕ) → among n (kept xs) ≡ is_some (slot_of xs n))

    abbrev pub entry_of : R → List ℕ
    entry_of r = entry_bytes (header r)

    -- the entries of all that is kept
    unfoldable pub listing : List (Option R) → List ℕ
    listing xs = flat_map entry_of (kept xs)

    -- a listing is written where a full store's would have room
    abbrev pub listing_room : List (Option R) → List ℕ → Option ℕ
    listing_room xs out = cond (nat_le (3 * length xs) (length out)) (Some (length (listing xs))) None

    -- and leaves what stands after it
    abbrev pub listing_laid : List (Option R) → List ℕ → List ℕ
    listing_laid xs out = cond (nat_le (3 * length xs) (length out)) (listing xs ++ drop (length (listing xs)) out) out

  -- 1 for a number that is stored, and for number 0, which every summary names
  abbrev pub bit_of : List (Option R) → ℕ → ℕ
  bit_of xs n = cond (n == 0) 1 (cond (is_some (slot_of xs n)) 1 0)

  -- the bits of eight numbers, the first in bit 0
  unfoldable pub bits_of : List (Option R) → ℕ → ℕ
  bits_of xs n = bit_of xs n + 2 * bit_of xs (n + 1) + 4 * bit_of xs (n + 2) + 8 * bit_of xs (n + 3)
      + 16 * bit_of xs (n + 4) + 32 * bit_of xs (n + 5) + 64 * bit_of xs (n + 6) + 128 * bit_of xs (n + 7)

  -- a bit for each number from 0 to 255
  unfoldable pub summary_bits : List (Option R) → List ℕ
  summary_bits xs = map (λ place. bits_of xs (place * 8)) (range_with_len 0 32)
