-- The packet: SOH, a number, an address, STX, a message, the check word of all that, and ETX.
use Rattle.std.specs.Prelude.{◌≡◌, ℕ, ◌+◌, ◌-◌, ◌*◌, ◌<◌, ◌≤◌, Bool, cond, ◌&&◌, List, [], ◌∷◌, ◌++◌, length, take, drop, Some, None, Option, ◌==◌, nat_le, slice_index}
use Rattle.std.specs.List.{between, AllByRecursion}
use Rattle.std.specs.Str.{bytes_eq}
use Rattle.octets.specs.Held.{held}
use Rattle.wire.specs.CheckWord.{check_word}
use Rattle.wire.specs.Digits.{byte_value, in_digits, bytes_of, from_digits, ◌>>=◌}
use Rattle.wire.specs.declared.packet.Packet.{Packet}

abbrev pub SOH : ℕ
SOH = 1

abbrev pub STX : ℕ
STX = 2

abbrev pub ETX : ℕ
ETX = 3

-- what a packet says
pub record Content : Type 0 where
  pub number : ℕ
  pub address : ℕ
  pub message : List ℕ

abbrev pub content : ℕ → ℕ → List ℕ → Content
content n a m = record { number = n; address = a; message = m }

-- what a packet in hand says
abbrev pub said : Packet → Content
said p = content p.number p.address (held p.message)

-- packets that say the same are equal all through
abbrev pub Alike : Type 0
Alike = (a b : Packet) → said a ≡ said b → a ≡ b

-- what a packet can say: bytes, and a message of 1 to 768 of them
abbrev pub Fitting : Content → Type 0
Fitting p = (p.number < 256) × (p.address < 256) × (1 ≤ length p.message) × (length p.message ≤ 768) × AllByRecursion (λ b. b < 256) p.message

-- SOH to the last digit of the message: what the check word is over
unfoldable pub body : ℕ → ℕ → List ℕ → List ℕ
body n a m = SOH ∷ (in_digits (n ∷ a ∷ []) ++ (STX ∷ in_digits m))

unfoldable pub encode : ℕ → ℕ → List ℕ → List ℕ
encode n a m = body n a m ++ (in_digits (bytes_of (check_word (body n a m))) ++ (ETX ∷ []))

-- how many bytes are written into the place d: none where m is empty or too long, or where d has no room for its packet
abbrev pub length_written : List ℕ → List ℕ → Option ℕ
length_written d m = cond (nat_le 1 (length m) && (nat_le (length m) 768 && nat_le (2 * length m + 11) (length d))) (Some (2 * length m + 11)) None

-- the last five bytes are the four digits of w, and ETX
unfoldable pub closed : ℕ → List ℕ → Bool
closed w bs = bytes_eq (drop (length bs - 5) bs) (in_digits (bytes_of w) ++ ETX ∷ [])

-- the frame of a packet: its length, its marks and its check word
unfoldable pub framed : List ℕ → Bool
framed bs = nat_le 13 (length bs) && (nat_le (length bs) 1547 && (slice_index bs 0 == SOH && (slice_index bs 5 == STX && closed (check_word (take (length bs - 5) bs)) bs)))

-- what the digits of a packet say
abbrev pub content_of : List ℕ → Option Content
content_of bs = do
  n ← byte_value (slice_index bs 1) (slice_index bs 2)
  a ← byte_value (slice_index bs 3) (slice_index bs 4)
  m ← from_digits (between 6 (length bs - 5) bs)
  Some (content n a m)

-- what the bytes of a whole packet say
unfoldable pub decode : List ℕ → Option Content
decode bs = cond (framed bs) (content_of bs) None

-- the packet stands at the front of e, is read back, and behind it all is as it was; or all is
abbrev pub Written : List ℕ → ℕ → ℕ → List ℕ → Option ℕ → List ℕ → Type 0
Written d n a m (Some k) e = (take k e ≡ encode n a m) × (drop k e ≡ drop k d) × (decode (take k e) ≡ Some (content n a m))
Written d n a m None e = e ≡ d

-- what is read is the packet that would be written
abbrev pub Whole : List ℕ → Option Content → Type 0
Whole bs None = Unit {0}
Whole bs (Some p) = (bs ≡ encode p.number p.address p.message) × Fitting p
