use Rattle.rt_app.specs.View.{task_of}
use Rattle.rt_app.specs.Declarations.{task_priority}
use Rattle.rt_rules.proofs.Fold.{one_more_seen}
use Rattle.rt_rules.proofs.declarations.judge_tasks.Goals as goal

pub loop-task-preserved : goal.loop-task-preserved
loop-task-preserved c = one_more_seen (task_priority c.args.bits) task_of _ _ _ c.args.tasks.now c.loop-task.task-index
    c.task-item.result c.loop-task-test.true c.task-item.is c.loop-task.invariant (cc)
