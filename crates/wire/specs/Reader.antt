-- The reader of a line: its state after each byte, and the packets that it takes.
use Rattle.std.specs.Prelude.{ℕ, cond, List, [], ◌∷◌, ◌++◌, length, take, fold, Some, None, Option, ◌==◌, nat_lt}
use Rattle.std.specs.Option.{option_to_list}
use Rattle.wire.specs.Packet.{SOH, ETX, Content, decode}

-- at rest, or with the bytes of a packet gathered so far
pub data State : Type 0 where
  rest : State
  gathering : List ℕ → State

-- A byte that is not SOH: at rest it is passed over; while gathering ETX ends the packet, and so does a byte too many.
abbrev pub further : State → ℕ → State
further rest b = rest
further (gathering g) b = cond (nat_lt (length g) 1547) (cond (b == ETX) rest (gathering (g ++ b ∷ []))) rest

-- the state after a byte: SOH starts a packet afresh
unfoldable pub next : State → ℕ → State
next s b = cond (b == SOH) (gathering (SOH ∷ [])) (further s b)

-- ETX ends a packet, which is taken if it is whole
abbrev pub ended : State → ℕ → Option Content
ended rest b = None
ended (gathering g) b = cond (nat_lt (length g) 1547) (cond (b == ETX) (decode (g ++ b ∷ [])) None) None

-- the packet that a byte makes whole
unfoldable pub taken : State → ℕ → Option Content
taken s b = cond (b == SOH) None (ended s b)

-- the state after a stretch of the line
abbrev pub run : State → List ℕ → State
run s bs = fold next s bs

-- the packets taken from a stretch of the line
abbrev pub takes : State → List ℕ → List Content
takes s [] = []
takes s (b ∷ bs) = option_to_list (taken s b) ++ takes (next s b) bs

-- what a reader holds: nothing, or the first n of the bytes in its memory
abbrev pub held : Option ℕ → List ℕ → State
held None g = rest
held (Some n) g = gathering (take n g)
