use Rattle.std.proofs.Common.{sym, ap, ◌∙◌, map, take}
use Rattle.rt_app.specs.View.{task_of, app_of}
use Rattle.rt_app.specs.declared.app.Task as code
use Rattle.rt_respond.specs.Number.{greater_of, greatest_of}
use Rattle.rt_respond.specs.Inside.Holding.{with_transit, whole_task}
use Rattle.rt_respond.proofs.Holding.{greatest_more}
use Rattle.rt_respond.proofs.blocking.tasks_hold.Goals as goal

pub loop-task-preserved : goal.loop-task-preserved
loop-task-preserved c =
    let held = c.args.held.now in
    let of = λ (t : code.Task). whole_task (app_of c.args.app.now) held (task_of t) in
    c.greater_of-most.ensures ∙ ap (λ a. greater_of a c.with_transit.result) c.loop-task.invariant
    ∙ ap (greater_of (greatest_of (map of (take c.loop-task.task-index c.args.tasks.now))))
    (c.with_transit.ensures ∙ ap (with_transit held.transit.now c.task-item.result.priority) c.task_holds-own.ensures)
    ∙ sym (greatest_more of c.args.tasks.now c.loop-task.task-index c.task-item.result c.loop-task-test.true
    c.task-item.is)
