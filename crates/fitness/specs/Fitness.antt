-- Which values are fit.
use Rattle.std.specs.Prelude.{ℕ, ◌+◌, ◌-◌, ◌/◌, ◌%◌, ◌^◌, Bool, true, false, cond, ◌&&◌, List, [], ◌∷◌, length, ◌==◌, nat_le, nat_lt}
use Rattle.std.specs.List.{list_all, enumerate_from}
use Rattle.fitness.specs.declared.judging.Place.{Place}
use Rattle.fitness.specs.declared.judging.Place.TheVariants.{Conspicuity, Character}
use Rattle.commands.specs.declared.lists.Span.{Span}
use Rattle.commands.specs.declared.lists.Time.{Time}
use Rattle.commands.specs.declared.lists.Line.{Line}
use Rattle.commands.specs.Lists.{minutes_of}
use Rattle.commands.specs.Sent.{Sent, text, graphic, message, plan, stored_record, list_stored, refused, stride}

-- beacons 0 to 5 in bits 0 to 2, annulus 0 to 2 in bits 3 and 4, bits 5 to 7 zero; characters 20h to 7Eh
abbrev pub byte_fits : Place → ℕ → Bool
byte_fits Conspicuity b = nat_le (b % 8) 5 && nat_le (b / 8) 2
byte_fits Character b = nat_le 0x20 b && nat_le b 0x7E

abbrev pub all_characters : List ℕ → Bool
all_characters bytes = list_all (byte_fits Character) bytes

abbrev pub numbered : ℕ → Bool
numbered n = nat_le 1 n && nat_le n 255

abbrev pub side : ℕ → Bool
side n = nat_le 1 n && nat_le n 32

abbrev pub text_fits : ℕ → ℕ → List ℕ → Bool
text_fits n b t = numbered n && (nat_le 1 (length t) && nat_le (length t) 128) && byte_fits Conspicuity b && all_characters t

-- the byte at place i, if it is the last of its row, has bits for its columns alone
unfoldable pub bits_used : ℕ → ℕ → ℕ → Bool
bits_used columns i b = cond (i % stride columns == stride columns - 1) (b / 2 ^ ((columns - 1) % 8 + 1) == 0) true

abbrev pub unused_clear : ℕ → List ℕ → Bool
unused_clear columns picture = list_all (λ (i, b). bits_used columns i b) (enumerate_from 0 picture)

abbrev pub graphic_fits : ℕ → ℕ → ℕ → ℕ → List ℕ → Bool
graphic_fits n rows columns b p = numbered n && side rows && side columns && byte_fits Conspicuity b && unused_clear columns p

-- A list of parts: the first is filled, and from the first that is not filled all are blank.
module _ {E : Type 0} (fills blanks : E → Bool) where
  abbrev pub listed_from : List E → Bool
  listed_from [] = true
  listed_from (x ∷ xs) = cond (fills x) (listed_from xs) (list_all blanks (x ∷ xs))

  abbrev pub listed : List E → Bool
  listed [] = false
  listed (x ∷ xs) = fills x && listed_from (x ∷ xs)

abbrev pub filled_span : Span → Bool
filled_span s = nat_le 1 s.frame && nat_le 1 s.seconds

abbrev pub blank_span : Span → Bool
blank_span s = s.frame == 0 && s.seconds == 0

abbrev pub time_of_day : Time → Bool
time_of_day t = nat_le t.hour 23 && nat_le t.minute 59

abbrev pub midnight : Time → Bool
midnight t = t.hour == 24 && t.minute == 0

-- kind 1 or 2, a number, and a start before a stop, which may be 24:00
abbrev pub filled_line : Line → Bool
filled_line l = (nat_le 1 l.kind && nat_le l.kind 2) && nat_le 1 l.number && time_of_day l.start
    && cond (time_of_day l.stop) true (midnight l.stop) && nat_lt (minutes_of l.start) (minutes_of l.stop)

abbrev pub blank_time : Time → Bool
blank_time t = t.hour == 0 && t.minute == 0

abbrev pub blank_line : Line → Bool
blank_line l = l.kind == 0 && l.number == 0 && blank_time l.start && blank_time l.stop

-- some day of bits 0 to 6, and bit 7 clear
abbrev pub days_fit : ℕ → Bool
days_fit d = nat_le 1 d && nat_le d 127

-- Whether the values of a command are fit. Group orders go by the site, the time by the calendar.
abbrev pub fit : Sent → Bool
fit (text h f c b t) = text_fits h.number b t
fit (graphic h rows columns b p) = graphic_fits h.number rows columns b p
fit (message h spans) = nat_le 1 h.number && listed filled_span blank_span spans
fit (plan h days lines) = nat_le 1 h.number && days_fit days && listed filled_line blank_line lines
fit (stored_record k n) = nat_le k 2 && nat_le 1 n
fit (list_stored k) = nat_le k 3
fit (refused e) = false
fit _ = true
