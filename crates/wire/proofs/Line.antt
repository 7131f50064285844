-- Why noise leaves no trace: quiet bytes move only the reader, and the next byte of the line starts it afresh.
use Rattle.std.proofs.Common.{◌≡◌, ℕ, List, [], ◌∷◌, ◌++◌, Some, None, Option, sym, refl, ap, ◌∙◌}
use Rattle.std.specs.Option.{option_to_list}
use Rattle.wire.specs.Packet.{SOH, Content}
use Rattle.wire.specs.Reader.{State, next, taken, takes}
use Rattle.wire.specs.Line.{Call, byte, other, Machine, acted, answered, reader-step, world-step, reply, world, reader, replies, Quiet, Starts, Restarts, bytes, others, spread, heard, Clean, line, Clean-in-gaps, Line-is-clean}

module _ {B C : Type 0} where
  starts-others : (s : B) (ns xs : List (Call B C)) → Starts s xs → Starts s (others ns ++ xs)
  starts-others s [] xs h = h
  starts-others s (byte b ∷ ns) xs h = starts-others s ns xs h
  starts-others s (other c ∷ ns) xs h = starts-others s ns xs h

  -- a stretch of bytes is all of the line
  pub others-bytes : (bs : List B) → others {C = C} (bytes bs) ≡ []
  others-bytes [] = refl
  others-bytes (b ∷ bs) = others-bytes bs

module _ {R B P C W A : Type 0} (m : Machine R B P C W A) where
  pub replies-append : (xs ys : List (Call B C)) (r : R) (w : W) → replies m r w (xs ++ ys) ≡ replies m r w xs ++ replies m (reader m r xs) (world m r w xs) ys
  replies-append [] ys r w = refl
  replies-append (x ∷ xs) ys r w = ap (λ t. reply m r w x ∷ t) (replies-append xs ys (reader-step m r x) (world-step m r w x))

  pub world-append : (xs ys : List (Call B C)) (r : R) (w : W) → world m r w (xs ++ ys) ≡ world m (reader m r xs) (world m r w xs) ys
  world-append [] ys r w = refl
  world-append (x ∷ xs) ys r w = world-append xs ys (reader-step m r x) (world-step m r w x)

module _ {R B P C W A : Type 0} (m : Machine R B P C W A) (s : B) (again : Restarts m s) where
  -- where the next byte starts a packet, it does not matter where the reader was
  pub same-world : (xs : List (Call B C)) (r q : R) (w : W) → Starts s xs → world m r w xs ≡ world m q w xs
  same-world [] r q w h = refl
  same-world (byte b ∷ xs) r q w h = rw (h, again.none r, again.none q, again.same r q) refl
  same-world (other c ∷ xs) r q w h = same-world xs r q (m.move w c) h

  pub same-replies : (xs : List (Call B C)) (r q : R) (w : W) → Starts s xs → replies m r w xs ≡ replies m q w xs
  same-replies [] r q w h = refl
  same-replies (byte b ∷ xs) r q w h = rw (h, again.none r, again.none q, again.same r q) refl
  same-replies (other c ∷ xs) r q w h = ap (λ t. m.result w c ∷ t) (same-replies xs r q (m.move w c) h)

  pub quiet-world : (ns : List (Call B C)) (r : R) (w : W) (xs : List (Call B C)) → Quiet m r ns → Starts s xs → world m r w (ns ++ xs) ≡ world m r w (others ns ++ xs)
  quiet-world [] r w xs q h = refl
  quiet-world (byte b ∷ ns) r w xs q h =
      ap (λ o. world m (m.next-state r b) (acted m w o) (ns ++ xs)) q.0
      ∙ (quiet-world ns (m.next-state r b) w xs q.1 h ∙ same-world (others ns ++ xs) (m.next-state r b) r w (starts-others s ns xs h))
  quiet-world (other c ∷ ns) r w xs q h = quiet-world ns r (m.move w c) xs q h

  pub quiet-replies : (ns : List (Call B C)) (r : R) (w : W) (xs : List (Call B C)) → Quiet m r ns → Starts s xs → replies m r w (ns ++ xs) ≡ spread m ns (replies m r w (others ns ++ xs))
  quiet-replies [] r w xs q h = refl
  quiet-replies (byte b ∷ ns) r w xs q h =
      ap (λ o. answered m w o ∷ replies m (m.next-state r b) (acted m w o) (ns ++ xs)) q.0
      ∙ ap (λ t. m.silence ∷ t)
      (quiet-replies ns (m.next-state r b) w xs q.1 h ∙ ap (spread m ns) (same-replies (others ns ++ xs) (m.next-state r b) r w (starts-others s ns xs h)))
  quiet-replies (other c ∷ ns) r w xs q h = ap (λ t. m.result w c ∷ t) (quiet-replies ns r (m.move w c) xs q h)

  pub clean : Clean m s
  clean r w before noisy after q h = (
    world-append m before (noisy ++ after) r w ∙ quiet-world noisy (reader m r before) (world m r w before) after q h ∙ sym (world-append m before (others noisy ++ after) r w),
    replies-append m before (others noisy ++ after) r w,
    replies-append m before (noisy ++ after) r w ∙ ap (λ t. replies m r w before ++ t) (quiet-replies noisy (reader m r before) (world m r w before) after q h),
  )

none_first : (o : Option Content) (ps : List Content) → option_to_list o ++ ps ≡ [] → (o ≡ None) × (ps ≡ [])
none_first None ps h = (refl, h)
none_first (Some p) ps h = absurd cc

-- the line of this crate's reader is clean in any world
module _ {C W A : Type 0} (act : W → Content → W) (answer : W → Content → A) (silence : A) (move : W → C → W) (result : W → C → A) where
  pub restarts : Restarts (line act answer silence move result) SOH
  unfolding next taken
  restarts = record { same = λ r q. refl; none = λ r. refl }

  -- bytes from which no packet is taken are quiet
  pub noise-quiet : (xs : List (Call ℕ C)) (r : State) → takes r (heard xs) ≡ [] → Quiet (line act answer silence move result) r xs
  noise-quiet [] r h = tt
  noise-quiet (byte b ∷ xs) r h =
      let n = none_first (taken r b) (takes (next r b) (heard xs)) h in
      (n.0, noise-quiet xs (next r b) n.1)
  noise-quiet (other c ∷ xs) r h = noise-quiet xs r h

  pub line_clean : Clean (line act answer silence move result) SOH
  line_clean = clean (line act answer silence move result) SOH restarts

  pub clean-in-gaps : Clean-in-gaps (line act answer silence move result)
  clean-in-gaps r w before noisy after g n h =
      line_clean r w before noisy after (noise-quiet noisy (reader (line act answer silence move result) r before) (ap (λ (z : State). takes z (heard noisy)) g ∙ n)) h

pub line-is-clean : Line-is-clean
unfolding Line-is-clean
line-is-clean = clean-in-gaps (λ (w : List Content) p. w ++ p ∷ []) (λ w p. Some p) None (λ w c. w) (λ w c. None)
