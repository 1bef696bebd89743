use Rattle.rt_ids.specs.declared.rule.Rule.TheVariants as rule
use Rattle.rt_app.specs.View.{task_of}
use Rattle.rt_app.specs.Violation.{when}
use Rattle.rt_app.specs.Declarations.{is_mixed}
use Rattle.rt_rules.proofs.Fold.{one_more_seen}
use Rattle.rt_rules.proofs.declarations.judge_hardware_tasks.Goals as goal

pub loop-task-preserved : goal.loop-task-preserved
loop-task-preserved c = one_more_seen (λ t. when (is_mixed t) rule.NotSoftware t.at) task_of _ _ _ c.args.tasks.now
    c.loop-task.task-index c.task-item.result c.loop-task-test.true c.task-item.is c.loop-task.invariant (cc)
