-- The site that the programs run: two text signs of 16 characters, sign 1 in group 1 and sign 2 in group 2.
use Rattle.std.specs.Prelude.{◌≡◌, ℕ, false, cond}
use Rattle.rack.specs.declared.look.Shape.{Shape}
use Rattle.rack.specs.declared.bank.SignRack.{SignRack}
use Rattle.rack.specs.declared.text.TextSign.{TextSign}
use Rattle.rack.specs.Face.{dark, has}
use Rattle.rack.specs.Bank.{bank_count, bank_face}
use Rattle.rack.specs.Text.{text_takes, text_rack_takes}
use Rattle.calendar.specs.Clocks.{started}
use Rattle.controller.specs.declared.site.Site.{Site}
use Rattle.controller.specs.Site.{fresh, with_sign}
use Rattle.replies.specs.declared.logs.FaultEntry.{FaultEntry}
use Rattle.replies.specs.declared.logs.FaultEvent.TheVariants.{Clearance}

pub record TwoTextSigns (r : SignRack TextSign) : Type 0 where
  pub signs : bank_count r ≡ 2
  pub takes : (s : ℕ) (h : Shape) → text_rack_takes r s h ≡ cond (has 2 s) (text_takes 16 h) false
  pub faces : (s : ℕ) → bank_face r s ≡ dark

abbrev pub two_groups : Site
two_groups = with_sign 2 (with_sign 1 fresh)

-- a place of the fault log's memory that holds no fault yet
abbrev pub unused : FaultEntry
unused = record { sign = 0; entry = 0; at = started.shown; code = 0; event = Clearance }
