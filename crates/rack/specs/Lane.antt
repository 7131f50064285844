-- What lane signs take: graphics of exactly their rows and columns.
use Rattle.std.specs.Prelude.{ℕ, ◌+◌, ◌*◌, ◌/◌, Bool, true, false, ◌&&◌, ◌==◌, nat_le}
use Rattle.std.proofs.Common.{◌≡◌, ◌≤◌, mul-le-mul, arith}
use Rattle.std.proofs.lemmas.Bool.Decides.{nat_tests}
use Rattle.rack.specs.declared.look.Kind.{Kind}
use Rattle.rack.specs.declared.look.Kind.TheVariants.{Text, Graphic}
use Rattle.rack.specs.declared.look.Shape.{Shape}
use Rattle.rack.specs.declared.lane.LaneSign.{LaneSign}
use Rattle.rack.specs.declared.bank.SignRack.{SignRack}
use Rattle.rack.specs.Bank.{bank_takes}

abbrev pub is_graphic : Kind → Bool
is_graphic Text = false
is_graphic Graphic = true

-- the bytes of one row of pixels, eight to a byte
abbrev pub row_bytes : ℕ → ℕ
row_bytes columns = (columns + 7) / 8

abbrev pub lane_takes : ℕ → ℕ → Shape → Bool
lane_takes rows columns h = is_graphic h.kind && (h.rows == rows && (h.columns == columns && h.length == rows * row_bytes columns))

abbrev pub lane_sign_takes : LaneSign → Shape → Bool
lane_sign_takes k h = lane_takes k.rows k.columns h

abbrev pub lane_rack_takes : SignRack LaneSign → ℕ → Shape → Bool
lane_rack_takes r s h = bank_takes lane_sign_takes r s h

-- rows and columns that a lane sign can have
abbrev pub matrix_fits : ℕ → ℕ → Bool
matrix_fits rows columns = (nat_le 1 rows && nat_le rows 32) && (nat_le 1 columns && nat_le columns 32)

-- A picture that a lane sign takes fits the sign's memory.
pub lane-small : (k : LaneSign) (h : Shape) → lane_sign_takes k h ≡ true → h.length ≤ 128
lane-small k h e =
    let row : row_bytes k.columns ≤ 4 = omega (arith, k.few_columns) in
    let all : k.rows * row_bytes k.columns ≤ 32 * 4 = mul-le-mul k.few_rows row in
    grind (arith, nat_tests)
