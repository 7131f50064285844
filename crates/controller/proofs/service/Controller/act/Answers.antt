use Rattle.std.proofs.Common.{◌+◌, cond, leb, length, is_ok, sym, refl, ap, ◌∙◌}
use Rattle.rack.specs.Face.{has}
use Rattle.controller.specs.Due.{view, group_at, face_due, sign_group}
use Rattle.controller.specs.Site.{groups_of}
use Rattle.controller.specs.Run.{answer, is_made, step, moves, memory_after, with_report, faults_after}
use Rattle.controller.proofs.Reports.{report-state}
use Rattle.controller.proofs.service.Controller.act.Goals as goal

pub returns-in-Report : goal.returns-in-Report
returns-in-Report g c =
    let e = c.report.ensures in
    let ctl = c.args.self.now in
    let lent = length c.args.faults.now in
    let sign = c.in-Report.sign in
    let code = c.in-Report.code in
    let is = c.in-Report.is in
    record {
      result = e.result ∙ sym (ap (answer ctl.site lent) is);
      acted = record {
        site = ap (λ x. x.site) e.after;
        state = λ k. ap (view k) e.after
            ∙ (ap (λ r. record { common = cond (is_ok r) (with_report sign code ctl.common) ctl.common; group = group_at ctl.groups k }) e.result
            ∙ (report-state (view k ctl) sign code (leb 20 lent) (has (length (groups_of ctl.site)) sign)
            ∙ sym (ap (λ x. cond (is_made lent x) (step ctl.site (view k ctl) x) (view k ctl)) is)));
        attached = λ k h. sym (ap (λ x. cond (moves x) (face_due (view (sign_group ctl k) c.report.new.self) (g.R.Rack.takes c.args.rack.now (k + 1))) (g.R.Rack.face c.args.rack.now (k + 1))) is);
        others = λ k h. refl;
      };
      memory = e.log
          ∙ (ap (λ r. cond (is_ok r) (faults_after sign code ctl.common c.args.faults.now) c.args.faults.now) e.result
          ∙ sym (ap (λ x. memory_after ctl.site ctl.common x c.args.faults.now) is));
      same = record { count = refl; taking = λ s h. refl };
    }
