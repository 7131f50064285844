-- The byte that stands for a reading, and how near it is to what was read. Assumes nothing.
use Rattle.std.specs.Prelude.{◌≡◌, ℕ, ◌+◌, ◌-◌, ◌*◌, ◌≤◌, true, false, cond, pos, negsuc, is_nan, nat_lt, count_by, map, Float}
use Rattle.std.specs.List.{range_with_len}
use Rattle.std.specs.Float.{nan, inf, fin, binary32}
use Rattle.std.specs.Float.Ieee.{add, mul, of_int, le, up, down}
use Rattle.analog.specs.declared.reading.Reading.{Reading}
use Rattle.analog.specs.declared.reading.Reading.TheVariants.{Volts, Celsius, Absent}

-- the mark k of the volts, exactly k + 1/2
abbrev pub volt_mark : ℕ → Float
volt_mark k = fin false (2 * k + 1) (negsuc 0)

-- the mark k of the degrees, exactly k - 39/2
abbrev pub degree_mark : ℕ → Float
degree_mark k = cond (nat_lt k 20) (fin true (39 - 2 * k) (negsuc 0)) (fin false (2 * k - 39) (negsuc 0))

-- the mark k where the first one is `first`, as 32-bit floating point adds
abbrev pub mark_from : Float → ℕ → Float
mark_from first k = add binary32 first (of_int binary32 (pos k))

-- how many of the first n marks are not above x
unfoldable pub count : (ℕ → Float) → ℕ → Float → ℕ
count mark n x = count_by (λ m. le m x) (map mark (range_with_len 0 n))

-- ten times v, as one product of 32-bit floating point
abbrev pub tenfold : Float → Float
tenfold v = mul binary32 v (fin false 5 (pos 1))

-- the marks 0.5 to 254.5 that ten times the volts reach
abbrev pub volts_code : Float → ℕ
volts_code v = count volt_mark 255 (tenfold v)

-- 80 and the marks -19.5 to 79.5 that the degrees reach
abbrev pub celsius_code : Float → ℕ
celsius_code c = cond (is_nan c) 0 (80 + count degree_mark 100 c)

abbrev pub code_of : Reading → ℕ
code_of (Volts v) = volts_code v
code_of (Celsius c) = celsius_code c
code_of Absent = 0

-- b is within 0.5001 of ten times v, exactly: v is m * up e / down e, and both sides are multiplied by 10000 * down e
abbrev pub NearVolts : ℕ → Float → Type 0
NearVolts b nan = ⊥
NearVolts b (inf s) = ⊥
NearVolts b (fin s m e) =
    (s ≡ false) × (10000 * (b * down e) ≤ 100000 * (m * up e) + 5001 * down e) × (100000 * (m * up e) ≤ 10000 * (b * down e) + 5001 * down e)

-- b - 100 is within 1/2 of v, exactly: both sides are multiplied by 2 * down e, and what is negative stands on the other side
abbrev pub NearDegrees : ℕ → Float → Type 0
NearDegrees b nan = ⊥
NearDegrees b (inf s) = ⊥
NearDegrees b (fin false m e) = (2 * (b * down e) ≤ 2 * (m * up e) + 201 * down e) × (2 * (m * up e) + 199 * down e ≤ 2 * (b * down e))
NearDegrees b (fin true m e) = (2 * (b * down e) + 2 * (m * up e) ≤ 201 * down e) × (199 * down e ≤ 2 * (b * down e) + 2 * (m * up e))

-- what a code says of the reading, where it is not at an end of its range
abbrev pub Faithful : Reading → ℕ → Type 0
Faithful (Volts v) b = 1 ≤ b → b ≤ 254 → NearVolts b v
Faithful (Celsius c) b = 81 ≤ b → b ≤ 179 → NearDegrees b c
Faithful Absent b = b ≡ 0

-- 1/4, 203/8 and 51/2
abbrev pub WorkedVolts : Type 0
WorkedVolts =
    (code_of (Volts (fin false 1 (negsuc 1))) ≡ 3) ×
    (code_of (Volts (fin false 203 (negsuc 2))) ≡ 254) ×
    (code_of (Volts (fin false 51 (negsuc 0))) ≡ 255)
