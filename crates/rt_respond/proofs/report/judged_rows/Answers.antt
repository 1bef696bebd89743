use Rattle.std.proofs.Common.{◌+◌, get_or, flat_map, take, sym, ap, subst, ◌∙◌}
use Rattle.std.specs.Prelude.{Vec}
use Rattle.std.specs.Global.{Global}
use Rattle.rt_respond.specs.Limits.{deadline_of}
use Rattle.rt_respond.specs.Report.{IsJudged, if_judged}
use Rattle.rt_respond.specs.Response.{IsResponse}
use Rattle.rt_respond.specs.Rows.{BelongEach}
use Rattle.rt_respond.specs.declared.handler.Handler.{Handler}
use Rattle.rt_respond.specs.declared.report.Judged.{Judged}
use Rattle.rt_respond.specs.declared.response.Response.TheVariants as response
use Rattle.rt_respond.proofs.Tables.{get_or_other}
use Rattle.rt_respond.proofs.Rows.{belong_at}
use Rattle.rt_respond.proofs.Judging.{judged_none, judged_one}
use Rattle.rt_respond.proofs.report.judged_rows.Goals as goal
use Rattle.rt_respond.proofs.report.judged_rows.Goals.{in-Some+in_ok-push, in_default}

pub loop-index-preserved : goal.loop-index-preserved
loop-index-preserved c app hs_are each =
    let hs = c.args.handlers.now in
    let rs = c.args.responses.now in
    let limits = c.args.limits.now in
    let i = c.loop-index.index in
    let h = c.index-handlers-index.result in
    let within = c.loop-index-test.true in
    let is = c.index-handlers-index.is in
    let rows = c.loop-index.rows.items in
    let so_far = c.loop-index.invariant app hs_are each in
    let due = ap (λ (h : Handler). deadline_of limits h.task) is in
    elim c.match-deadline_of.branch [
      | in-Some+in_ok-push w ↦
          let d = w.index-handlers-index-in-Some.result in
          let row : Judged = record {
            task = (get_or hs i d).task;
            deadline = w.in-Some.deadline;
            is_met = w.is_within.result;
          } in
          subst (λ (v : Vec Judged Global). BelongEach (IsJudged app limits)
          (flat_map (λ h. if_judged app limits h (deadline_of limits h.task)) (take (i + 1) hs)) v.items)
          (sym w.rows-is)
          (judged_one app limits hs i h within is rows so_far w.in-Some.deadline (due ∙ sym w.in-Some.ensures) row
          w.push.new.self.items
          (record {
            task = ap (λ (h : Handler). h.task) (get_or_other hs i d h within ∙ sym is);
            deadline = due ∙ sym w.in-Some.ensures;
            response = get_or rs i (response.Steps 0);
            is_response = subst (λ h. IsResponse app limits.every h (get_or rs i (response.Steps 0))) (sym is)
                (belong_at (IsResponse app limits.every) hs rs i h (response.Steps 0) each within);
            is_met = w.is_within.ensures;
          }) w.in_ok-push.ensures.items)
      | in_default w ↦
          subst (λ (v : Vec Judged Global). BelongEach (IsJudged app limits)
          (flat_map (λ h. if_judged app limits h (deadline_of limits h.task)) (take (i + 1) hs)) v.items)
          (sym w.rows-is)
          (judged_none app limits hs i h within is rows so_far (due ∙ sym w.in_default.ensures))
    ]
