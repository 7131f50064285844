use Rattle.std.proofs.Common.{◌≡◌, ◌+◌, ◌<◌, [], ◌∷◌, ◌++◌, length, get_or, take, sym, refl, ap, ◌∙◌, subst, arith}
use Rattle.controller.specs.Faces.{SameSigns}
use Rattle.controller.proofs.Shown.{same-signs}
use Rattle.controller.specs.declared.call.Call.TheVariants.{Line}
use Rattle.controller.specs.Site.{groups_of}
use Rattle.controller.specs.Run.{view_after, made, Reached}
use Rattle.controller.proofs.Reaching.{reached-all, reached-next, due-same}
use Rattle.controller.proofs.run.serve.Goals as goal

pub loop-call-init : goal.loop-call-init
loop-call-init g c =
    let e = c.close-controller.ensures in
    let site = ap (λ x. x.site) e.opens in (
      subst (λ s. Reached s (g.R.Rack.takes c.close-controller.new.rack) [] c.close-controller.result (g.R.Rack.face c.close-controller.new.rack)) (sym site) e.reached,
      record { count = refl; taking = λ s h. refl },
    )

pub loop-call-preserved : goal.loop-call-preserved
loop-call-preserved g c =
    let site = c.close-controller.result.site in
    let lent = length c.args.faults.now in
    let done = made lent (take c.loop-call.call-index c.args.calls.now) in
    let kept : length c.loop-call.faults ≡ lent = c.loop-call.auto.faults in
    let lt : c.loop-call.call-index < length c.args.calls.now = omega arith in (
      reached-next lent site (g.R.Rack.takes c.take.new.rack) c.args.calls.now c.loop-call.call-index c.take.new.self (g.R.Rack.face c.take.new.rack) (Line 0) lt
          (subst (λ n. Reached site (g.R.Rack.takes c.take.new.rack) (done ++ made n (get_or c.args.calls.now c.loop-call.call-index (Line 0) ∷ [])) c.take.new.self (g.R.Rack.face c.take.new.rack)) kept (c.take.ensures.reached site done c.loop-call.invariant.0)),
      same-signs c.loop-call.invariant.1 c.take.ensures.same,
    )

pub returns : goal.returns
returns g c =
    let e = c.close-controller.ensures in
    let site = c.args.commissioning.site in
    let calls = c.args.calls.now in
    let lent = length c.args.faults.now in
    let rack = c.loop-call.rack in
    let same : SameSigns (g.R.Rack.signs c.args.rack.now) (g.R.Rack.signs rack) (g.R.Rack.takes c.args.rack.now) (g.R.Rack.takes rack)
    = same-signs e.same c.loop-call.invariant.1 in
    let all : Reached site (g.R.Rack.takes rack) (made lent calls) c.loop-call.controller (g.R.Rack.face rack)
    = subst (λ s. Reached s (g.R.Rack.takes rack) (made lent calls) c.loop-call.controller (g.R.Rack.face rack)) (ap (λ x. x.site) e.opens)
    (reached-all lent _ (g.R.Rack.takes rack) calls c.loop-call.call-index c.loop-call.controller (g.R.Rack.face rack) c.loop-call-test.false c.loop-call.invariant.0) in
    record {
      shows_due = λ k lt. all.faces k lt
          ∙ sym (due-same (view_after site (get_or (groups_of site) k 0) (made lent calls)) (g.R.Rack.takes c.args.rack.now (k + 1)) (g.R.Rack.takes rack (k + 1)) (same.taking (k + 1)));
      reached = all;
      same = same;
    }
