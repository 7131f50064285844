-- A line that is read byte by byte beside other calls, and what it is for noise on it to leave no trace.
-- It holds for any reader R of bytes B into packets P, any other calls C, any world W beside the reader, and any answers A.
use Rattle.std.specs.Prelude.{◌≡◌, ℕ, List, [], ◌∷◌, ◌++◌, Some, None, Option}
use Rattle.wire.specs.Packet.{SOH, Content}
use Rattle.wire.specs.Reader.{State, rest, next, taken}
use Rattle.wire.specs.Noise.{Noise}

-- one call: a byte of the line, or anything else
pub data Call (B C : Type 0) : Type 0 where
  byte : B → Call B C
  other : C → Call B C

-- The parts of a machine on a line. A byte that makes no packet whole moves the reader alone, and its answer is `silence`.
pub record Machine (R B P C W A : Type 0) : Type 0 where
  pub next-state : R → B → R
  pub whole : R → B → Option P
  pub act : W → P → W
  pub answer : W → P → A
  pub silence : A
  pub move : W → C → W
  pub result : W → C → A

module _ {R B P C W A : Type 0} (m : Machine R B P C W A) where
  abbrev pub acted : W → Option P → W
  acted w None = w
  acted w (Some p) = m.act w p

  abbrev pub answered : W → Option P → A
  answered w None = m.silence
  answered w (Some p) = m.answer w p

  abbrev pub reader-step : R → Call B C → R
  reader-step r (byte b) = m.next-state r b
  reader-step r (other c) = r

  abbrev pub world-step : R → W → Call B C → W
  world-step r w (byte b) = acted w (m.whole r b)
  world-step r w (other c) = m.move w c

  abbrev pub reply : R → W → Call B C → A
  reply r w (byte b) = answered w (m.whole r b)
  reply r w (other c) = m.result w c

  -- the reader, the world and the replies after a list of calls
  abbrev pub reader : R → List (Call B C) → R
  reader r [] = r
  reader r (x ∷ xs) = reader (reader-step r x) xs

  abbrev pub world : R → W → List (Call B C) → W
  world r w [] = w
  world r w (x ∷ xs) = world (reader-step r x) (world-step r w x) xs

  abbrev pub replies : R → W → List (Call B C) → List A
  replies r w [] = []
  replies r w (x ∷ xs) = reply r w x ∷ replies (reader-step r x) (world-step r w x) xs

  -- calls whose line bytes make no packet whole
  abbrev pub Quiet : R → List (Call B C) → Type 0
  Quiet r [] = Unit {0}
  Quiet r (byte b ∷ xs) = (m.whole r b ≡ None) × Quiet (m.next-state r b) xs
  Quiet r (other c ∷ xs) = Quiet r xs

  -- replies with `silence` put in for each line byte of the calls
  abbrev pub spread : List (Call B C) → List A → List A
  spread [] ys = ys
  spread (byte b ∷ xs) ys = m.silence ∷ spread xs ys
  spread (other c ∷ xs) [] = []
  spread (other c ∷ xs) (y ∷ ys) = y ∷ spread xs ys

  -- A starting byte leads to one state from wherever the reader was, and makes no packet whole.
  pub record Restarts (s : B) : Type 0 where
    pub same : (r q : R) → m.next-state r s ≡ m.next-state q s
    pub none : (r : R) → m.whole r s ≡ None

module _ {B C : Type 0} where
  -- the next byte of the line, if there is one, is the starting byte
  abbrev pub Starts : B → List (Call B C) → Type 0
  Starts s [] = Unit {0}
  Starts s (byte b ∷ xs) = b ≡ s
  Starts s (other c ∷ xs) = Starts s xs

  -- the calls without their line bytes
  abbrev pub others : List (Call B C) → List (Call B C)
  others [] = []
  others (byte b ∷ xs) = others xs
  others (other c ∷ xs) = other c ∷ others xs

  -- a stretch of bytes as calls
  abbrev pub bytes : List B → List (Call B C)
  bytes [] = []
  bytes (b ∷ bs) = byte b ∷ bytes bs

  -- the line bytes among the calls
  abbrev pub heard : List (Call B C) → List B
  heard [] = []
  heard (byte b ∷ xs) = b ∷ heard xs
  heard (other c ∷ xs) = heard xs

-- Calls with noise among them leave what the same calls without their line bytes leave: the world, and every other call's reply.
abbrev pub Unchanged : {R B P C W A : Type 0} → Machine R B P C W A → R → W → List (Call B C) → List (Call B C) → List (Call B C) → Type 0
Unchanged m r w before noisy after =
    (world m r w (before ++ (noisy ++ after)) ≡ world m r w (before ++ (others noisy ++ after)))
    × (replies m r w (before ++ (others noisy ++ after))
    ≡ replies m r w before ++ replies m (reader m r before) (world m r w before) (others noisy ++ after))
    × (replies m r w (before ++ (noisy ++ after))
    ≡ replies m r w before ++ spread m noisy (replies m (reader m r before) (world m r w before) (others noisy ++ after)))

-- A stretch from which no packet is made whole, before a starting byte, changes nothing, however it is mixed with other calls.
abbrev pub Clean : {R B P C W A : Type 0} → Machine R B P C W A → B → Type 0
Clean {R} {B} {P} {C} {W} {A} m s =
    (r : R) (w : W) (before noisy after : List (Call B C)) → Quiet m (reader m r before) noisy → Starts s after → Unchanged m r w before noisy after

-- The line of this crate's reader, in any world.
abbrev pub line : {C W A : Type 0} → (W → Content → W) → (W → Content → A) → A → (W → C → W) → (W → C → A) → Machine State ℕ Content C W A
line act answer silence move result =
    record { next-state = next; whole = taken; act = act; answer = answer; silence = silence; move = move; result = result }

-- Noise in a gap, however it is mixed with other calls, changes nothing.
abbrev pub Clean-in-gaps : {C W A : Type 0} → Machine State ℕ Content C W A → Type 0
Clean-in-gaps {C} {W} {A} m =
    (r : State) (w : W) (before noisy after : List (Call ℕ C)) → reader m r before ≡ rest → Noise (heard noisy) → Starts SOH after → Unchanged m r w before noisy after

-- So are the packets taken from a line, beside calls that leave them as they are.
unfoldable pub Line-is-clean : Type 0
Line-is-clean = Clean-in-gaps (line {C = ℕ} (λ (w : List Content) p. w ++ p ∷ []) (λ w p. Some p) None (λ w c. w) (λ w c. None))
