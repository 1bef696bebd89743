-- What the tasks so far ask for.
use Rattle.std.proofs.Common.{◌≡◌, flat_map, take}
use Rattle.rt_app.specs.View.{task_of, app_of}
use Rattle.rt_rta.specs.Inside.Loads.{task_loads}
use Rattle.rt_rta.proofs.load.loads_of.Given as goal

abbrev pub invariant-loop-task : goal.invariant-loop-task
invariant-loop-task l =
    l.all.items ≡ flat_map (λ t. task_loads (app_of l.app) l.limits (task_of t)) (take l.task-index l.app.tasks.items)
