-- What a sign report leaves, by the tests that it goes through.
use Rattle.std.proofs.Common.{◌≡◌, ℕ, Bool, true, false, cond, is_ok, refl}
use Rattle.controller.specs.Due.{View}
use Rattle.controller.specs.Run.{report_verdict, with_report}

pub report-state : (v : View) (sign code : ℕ) (enough heard : Bool)
    → ◌≡◌ {A = View}
    (record { common = cond (is_ok (report_verdict enough heard)) (with_report sign code v.common) v.common; group = v.group })
    (cond enough (record { common = cond heard (with_report sign code v.common) v.common; group = v.group }) v)
report-state v sign code true true = refl
report-state v sign code true false = refl
report-state v sign code false heard = refl
