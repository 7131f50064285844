use Rattle.std.proofs.Common.{ap, ◌∙◌}
use Rattle.calendar.specs.Clocks.{ticked}
use Rattle.calendar.specs.Following.{next-dated, next-timed}
use Rattle.calendar.specs.Moments.{moment}
use Rattle.calendar.proofs.Clocks.{same-shown}
use Rattle.calendar.proofs.Ends.{next-later}
use Rattle.calendar.proofs.clock.Clock.tick.Goals as goal

pub invariant_of-self : goal.invariant_of-self
invariant_of-self c =
    let was = c.args.self.now in
    rw c.next_second.ensures (record { date = next-dated was.shown was.date; time = next-timed was.shown was.time })

pub returns-clause-state : goal.returns-clause-state
unfolding ticked
returns-clause-state c = same-shown _ _ c.next_second.ensures

pub returns-clause-later : goal.returns-clause-later
returns-clause-later c = let was = c.args.self.now in ap moment c.next_second.ensures ∙ next-later was.shown was.date was.time
