use Rattle.std.proofs.Common.{◌+◌, get_or, ap, ◌∙◌, arith, below_more}
use Rattle.controller.specs.Due.{view, face_of, shown_by, frame_due, sign_group}
use Rattle.controller.proofs.Shown.{shown-same, same-signs}
use Rattle.controller.proofs.faces.settle.Goals as goal

pub loop-place-preserved : goal.loop-place-preserved
loop-place-preserved g c =
    let i = c.loop-place.place in
    let ctl = c.args.controller.now in
    let kept = c.loop-place.invariant in
    let takes = g.R.Rack.takes c.loop-place.rack (i + 1) in
    record {
      settled = below_more _ _
          (λ k h. c.refresh.ensures.others (k + 1) (λ e. omega arith) ∙ kept.settled k h)
          (c.refresh.ensures.face
          ∙ (ap (λ o. face_of (shown_by takes o)) c.frame_due.ensures
          ∙ (ap (λ groups. face_of (shown_by takes (frame_due (view (get_or groups i 0) ctl)))) c.as_slice-groups.ensures.bytes
          ∙ ap face_of (shown-same takes (g.R.Rack.takes c.args.rack.now (i + 1)) (kept.same.taking (i + 1)) (frame_due (view (sign_group ctl i) ctl))))));
      others = λ k h. c.refresh.ensures.others (k + 1) (λ e. omega arith) ∙ kept.others k (omega arith);
      same = same-signs kept.same c.refresh.ensures.same;
    }
