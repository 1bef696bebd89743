use Rattle.std.proofs.Common.{◌∷◌, ap, sym, ◌∙◌, map, true, false}
use Rattle.rt_app.specs.Stack.{is_bound_at, thread_frame}
use Rattle.rt_app.specs.View.{task_of, app_of}
use Rattle.rt_reach.proofs.Greatest.{words, most_next}
use Rattle.rt_reach.proofs.priorities.greatest_frame.Goals as goal
use Rattle.rt_reach.proofs.priorities.greatest_frame.Goals.{then-is_bound_at, else-is_bound_at}

pub loop-number-preserved : goal.loop-number-preserved
loop-number-preserved c =
    let app = app_of c.args.app.now in
    let ts = c.deref-task-items.result.now in
    let are = c.requires ∙ ap (λ us. thread_frame app.init ∷ thread_frame app.idle ∷ map words (map task_of us))
    (sym c.deref-task-items.ensures.value) in
    let next = most_next (is_bound_at c.args.priority) c.args.frames.now (thread_frame app.init) (thread_frame app.idle)
    ts
    c.loop-number.number c.task-item.result c.loop-number.most are c.loop-number-test.true c.task-item.is
    c.loop-number.invariant in
    elim c.if-is_bound_at.branch [
      | then-is_bound_at w ↦ w.most-is ∙ w.max-most.ensures
          ∙ next true (sym w.if-is_bound_at.true ∙ c.is_bound_at.ensures)
      | else-is_bound_at w ↦ w.most-is ∙ next false (sym w.if-is_bound_at.false ∙ c.is_bound_at.ensures)
    ]
