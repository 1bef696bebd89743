use Rattle.std.proofs.Common.{sym, ap, ◌∙◌}
use Rattle.rt_ids.specs.Names.{Names, with_task}
use Rattle.rt_ids.proofs.Lists.{taken_next}
use Rattle.rt_ids.proofs.Declared.{next_task}
use Rattle.rt_ids.proofs.names.copy_tasks.Goals as goal

pub add_task-requires-clause-unknown : goal.add_task-requires-clause-unknown
add_task-requires-clause-unknown c =
    next_task c.loop-index.to c.loop-index.index c.in-Some.name.now c.args.from.now.tasks
    (ap (λ (names : Names). names.tasks) c.loop-index.invariant)
    c.task_count-index-end.ensures.names.tasks_differ (sym c.in-Some.ensures)

pub loop-index-preserved : goal.loop-index-preserved
loop-index-preserved c =
    c.in_ok-add_task.ensures.added ∙ ap (λ names. with_task names c.in-Some.name.now) c.loop-index.invariant
    ∙ ap (λ xs. record c.args.to.now { tasks = xs }) (taken_next c.args.from.now.tasks c.loop-index.index _
    (sym c.in-Some.ensures))
