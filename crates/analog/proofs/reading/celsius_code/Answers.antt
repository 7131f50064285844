use Rattle.std.proofs.Common.{◌≡◌, ◌∙◌, arith}
use Rattle.std.proofs.lemmas.Grind.{common_steps}
use Rattle.analog.specs.Codes.{count, mark_from, degree_mark}
use Rattle.analog.proofs.Counts.{count_same, count-le}
use Rattle.analog.proofs.Degrees.{near-degrees}
use Rattle.analog.proofs.Marks.{coldest, degree-marks}
use Rattle.analog.proofs.reading.celsius_code.Goals as goal

pub overflow_add-result : goal.overflow_add-result
overflow_add-result c = omega (arith, c.marks_reached.ensures, count-le (mark_from coldest) 100 c.args.degrees)

pub returns-else-is_nan : goal.returns-else-is_nan
returns-else-is_nan c =
    let e : c.marks_reached.result ≡ count degree_mark 100 c.args.degrees = c.marks_reached.ensures ∙ count_same (mark_from coldest) degree_mark 100 c.args.degrees degree-marks in
    record {
      value = grind (arith, common_steps, e);
      near = λ l u. near-degrees c.marks_reached.result c.args.degrees e (omega arith) (omega arith);
    }
