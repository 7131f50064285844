-- Noise on the line: bytes from which a reader at rest takes no whole packet; and what it leaves, which is nothing.
use Rattle.std.specs.Prelude.{◌≡◌, ℕ, List, [], ◌∷◌, ◌++◌, Some, None}
use Rattle.wire.specs.Packet.{SOH, Content, content, encode, Fitting}
use Rattle.wire.specs.Reader.{State, rest, gathering, next, taken, run, takes}

abbrev pub Noise : List ℕ → Type 0
Noise bs = takes rest bs ≡ []

-- the next byte of the line, if there is one, is SOH
abbrev pub Begins : List ℕ → Type 0
Begins [] = Unit {0}
Begins (b ∷ bs) = b ≡ SOH

-- a gap: the reader is at rest, and a packet begins or the line ends
abbrev pub Gap : State → List ℕ → Type 0
Gap s after = (s ≡ rest) × Begins after

-- SOH leads to one state from any state, and takes nothing.
unfoldable pub Soh-starts-afresh : Type 0
Soh-starts-afresh = (s : State) → (next s SOH ≡ gathering (SOH ∷ [])) × (taken s SOH ≡ None)

-- Noise and then SOH leave what SOH alone leaves.
unfoldable pub Soh-ends-noise : Type 0
Soh-ends-noise = (noise : List ℕ) → Noise noise → (run rest (noise ++ SOH ∷ []) ≡ run rest (SOH ∷ [])) × (takes rest (noise ++ SOH ∷ []) ≡ [])

-- From noise and then a packet comes that packet, and nothing else.
unfoldable pub Packet-survives-noise : Type 0
Packet-survives-noise = (noise : List ℕ) (n a : ℕ) (m : List ℕ) → Noise noise → Fitting (content n a m)
    → (run rest (noise ++ encode n a m) ≡ rest) × (takes rest (noise ++ encode n a m) ≡ content n a m ∷ [])

-- A packet that is taken has just come, byte by byte.
unfoldable pub Taken-has-come : Type 0
Taken-has-come = (line : List ℕ) (b : ℕ) (p : Content) → taken (run rest line) b ≡ Some p
    → (earlier : List ℕ) × (line ++ b ∷ [] ≡ earlier ++ encode p.number p.address p.message)

-- Noise in a gap changes none of the packets that are taken from a line.
unfoldable pub Noise-leaves-no-trace : Type 0
Noise-leaves-no-trace = (s : State) (before noise after : List ℕ) → Noise noise → Gap (run s before) after
    → takes s (before ++ (noise ++ after)) ≡ takes s (before ++ after)
