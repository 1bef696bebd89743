-- The first violation so far is that of the tasks so far.
use Rattle.std.proofs.Common.{◌≡◌, map, flat_map, take}
use Rattle.rt_ids.specs.declared.rule.Rule.TheVariants as rule
use Rattle.rt_app.specs.View.{task_of}
use Rattle.rt_app.specs.Violation.{when}
use Rattle.rt_app.specs.Declarations.{is_mixed}
use Rattle.rt_rules.specs.Inside.First.{first_of}
use Rattle.rt_rules.proofs.declarations.judge_hardware_tasks.Given as goal

abbrev pub invariant-loop-task : goal.invariant-loop-task
invariant-loop-task l = l.first ≡ first_of l.fn.first (flat_map (λ t. when (is_mixed t) rule.NotSoftware t.at)
    (map task_of (take l.task-index l.tasks)))
