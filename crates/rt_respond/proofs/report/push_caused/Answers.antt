use Rattle.std.proofs.Common.{◌≡◌, ◌+◌, ◌++◌, ◌==◌, not, map, filter, take, get_or, Some, refl, sym, ap, subst, ◌∙◌}
use Rattle.std.specs.Prelude.{ℕ, Vec}
use Rattle.std.specs.Global.{Global}
use Rattle.std.proofs.lemmas.Option.{slice_get-get_or, get_or_from_slice_get}
use Rattle.rt_lemmas.proofs.Lists.{some_at}
use Rattle.rt_respond.specs.Report.{AreCaused}
use Rattle.rt_respond.specs.declared.handler.Handler.{Handler}
use Rattle.rt_respond.specs.declared.report.Caused.{Caused}
use Rattle.rt_respond.specs.declared.response.Response.TheVariants as response
use Rattle.rt_respond.proofs.Tables.{get_or_other}
use Rattle.rt_respond.proofs.Causes.{next_same, next_apart, next_more, pairs_all}
use Rattle.rt_respond.proofs.report.push_caused.Goals as goal
use Rattle.rt_respond.proofs.report.push_caused.Goals.{then-handlers-to+in-Some+in_ok-push}
use Rattle.rt_respond.proofs.report.push_caused.Goals.{then-handlers-to+in_default, else-handlers-to}

pub loop-to-preserved : goal.loop-to-preserved
loop-to-preserved c app limits graph before so_far from is =
    let hs = c.args.handlers.now in
    let all = c.args.reached.now in
    let rs = c.args.responses.now in
    let f = c.args.from in
    let i = c.loop-to.to in
    let rows = c.loop-to.rows.items in
    let within = c.loop-to-test.true in
    let there = c.requires.there in
    let of_from : (d : Handler) → get_or hs f d ≡ from = λ d. get_or_other hs f d from there ∙ sym is in
    let from_at = slice_get-get_or hs f from there ∙ ap Some (sym is) in
    let to = get_or hs i c.index-handlers-to.result in
    let to_at = slice_get-get_or hs i c.index-handlers-to.result within in
    let irq_of : Handler → ℕ = λ h. h.irq in
    let task_of_row : Handler → ℕ = λ h. h.task in
    let now = c.loop-to.invariant app limits graph before so_far from is in
    elim c.if-handlers-to.branch [
      | then-handlers-to+in-Some+in_ok-push w ↦
          subst (λ (v : Vec Caused Global). AreCaused app limits
          (before ++ map (λ to. (from, to)) (filter (λ to. not (to.irq == from.irq)) (take (i + 1) hs))) v.items)
          (sym w.rows-is)
          (next_more app limits hs rs all graph before f i from to from_at to_at rows now
          (λ same. w.if-handlers-to.true (same ∙ sym (ap irq_of (of_from c.index-handlers-from.result))))
          w.in-Some.ensures.joined w.in-Some.lowest w.in-Some.ensures.lowest
          (record {
            from = (get_or hs f w.index-handlers-from-in-Some.result).irq;
            to = (get_or hs i w.index-handlers-to-in-Some.result).task;
            response = get_or rs w.in-Some.lowest (response.Steps 0);
          })
          (response.Steps 0) w.push.new.self.items (ap irq_of (of_from w.index-handlers-from-in-Some.result))
          (ap task_of_row (get_or_other hs i w.index-handlers-to-in-Some.result c.index-handlers-to.result within)) refl
          w.in_ok-push.ensures.items)
      | then-handlers-to+in_default w ↦
          subst (λ (v : Vec Caused Global). AreCaused app limits
          (before ++ map (λ to. (from, to)) (filter (λ to. not (to.irq == from.irq)) (take (i + 1) hs))) v.items)
          (sym w.rows-is)
          (next_apart app limits hs rs all graph before f i from to from_at to_at rows now
          (λ same. w.if-handlers-to.true (same ∙ sym (ap irq_of (of_from c.index-handlers-from.result))))
          (w.in_default.ensures.apart refl))
      | else-handlers-to w ↦
          subst (λ (v : Vec Caused Global). AreCaused app limits
          (before ++ map (λ to. (from, to)) (filter (λ to. not (to.irq == from.irq)) (take (i + 1) hs))) v.items)
          (sym w.rows-is)
          (next_same app limits hs rs all graph before f i from to from_at to_at rows now
          (w.if-handlers-to.false ∙ ap irq_of (of_from c.index-handlers-from.result)))
    ]

pub returns : goal.returns
returns c app limits graph before so_far =
    let row = some_at c.args.handlers.now c.args.from c.requires.there in
    pairs_all app limits c.args.handlers.now before c.args.from c.loop-to.to row.0 c.loop-to.rows.items
    graph.handlers_are row.1 c.loop-to-test.false
    (c.loop-to.invariant app limits graph before so_far row.0
    (sym (get_or_from_slice_get c.args.handlers.now c.args.from row.0 row.0 row.1)))
