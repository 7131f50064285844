-- What text signs take: one row of 1 up to their width of characters, one byte for each.
use Rattle.std.specs.Prelude.{ℕ, Bool, true, false, ◌&&◌, ◌==◌, nat_le}
use Rattle.rack.specs.declared.look.Kind.{Kind}
use Rattle.rack.specs.declared.look.Kind.TheVariants.{Text, Graphic}
use Rattle.rack.specs.declared.look.Shape.{Shape}
use Rattle.rack.specs.declared.text.TextSign.{TextSign}
use Rattle.rack.specs.declared.bank.SignRack.{SignRack}
use Rattle.rack.specs.Bank.{bank_takes}

abbrev pub is_text : Kind → Bool
is_text Text = true
is_text Graphic = false

abbrev pub text_takes : ℕ → Shape → Bool
text_takes width h = is_text h.kind && (h.rows == 1 && (h.columns == h.length && (nat_le 1 h.columns && nat_le h.columns width)))

abbrev pub text_sign_takes : TextSign → Shape → Bool
text_sign_takes k h = text_takes k.width h

abbrev pub text_rack_takes : SignRack TextSign → ℕ → Shape → Bool
text_rack_takes r s h = bank_takes text_sign_takes r s h

-- a width that a text sign can have
abbrev pub width_fits : ℕ → Bool
width_fits width = nat_le 1 width && nat_le width 128
