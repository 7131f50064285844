-- The bytes that a stretch holds, and the stretch that holds given bytes.
use Rattle.std.specs.Prelude.{◌≡◌, ℕ, ◌-◌, List, ◌++◌, length, take, replicate}
use Rattle.octets.specs.Room.{room}
use Rattle.octets.specs.Stretch.{short, whole, zeros}
use Rattle.octets.specs.declared.octets.Octets.{Octets}

-- the first of its memory, as many as it counts
abbrev pub held : {most : ℕ} → Octets most → List ℕ
held o = take o.used o.bytes

-- as many of the bytes as fit, and zeros behind them
unfoldable pub stretch : (most : ℕ) → List ℕ → Octets most
stretch most xs = record {
  bytes = take (room most) xs ++ replicate (most - length (take (room most) xs)) 0;
  used = length (take (room most) xs);
  long = whole most xs;
  fits = short most xs;
  blank = zeros most xs;
}

-- stretches of the same bytes are equal all through
abbrev pub Alike : ℕ → Type 0
Alike most = (a b : Octets most) → held a ≡ held b → a ≡ b
