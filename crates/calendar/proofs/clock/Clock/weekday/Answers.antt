use Rattle.std.proofs.Common.{◌≡◌, arith}
use Rattle.std.proofs.lemmas.Grind.{common_steps}
use Rattle.calendar.specs.Dates.{years_days, months_days}
use Rattle.calendar.specs.Moments.{day_number}
use Rattle.calendar.proofs.clock.Clock.weekday.Goals as goal

pub returns-clause-monday : goal.returns-clause-monday
unfolding years_days months_days
returns-clause-monday c h =
    let first : day_number c.args.self.now.shown ≡ 1 = rw (h.0, h.1, h.2) in
    grind (arith, common_steps)
