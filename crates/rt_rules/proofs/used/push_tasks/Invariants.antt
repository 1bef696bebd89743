-- The uses so far are those of the tasks so far.
use Rattle.std.proofs.Common.{◌≡◌, ◌++◌, map, flat_map, take}
use Rattle.rt_app.specs.View.{task_of}
use Rattle.rt_app.specs.Declarations.{bound_use}
use Rattle.rt_rules.proofs.used.push_tasks.Given as goal

abbrev pub invariant-loop-task : goal.invariant-loop-task
invariant-loop-task l = l.uses.items ≡ l.fn.uses.items ++ flat_map (λ t. bound_use t.binds t.binds_at)
    (map task_of (take l.task-index l.tasks))
