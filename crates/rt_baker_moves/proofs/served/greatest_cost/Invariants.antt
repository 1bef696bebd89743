-- The greatest of the tasks so far.
use Rattle.std.proofs.Common.{◌≡◌, map, take}
use Rattle.rt_app.specs.View.{task_of}
use Rattle.rt_ids.specs.Lists.{greatest}
use Rattle.rt_baker_moves.proofs.Filling.{cost_in}
use Rattle.rt_baker_moves.proofs.served.greatest_cost.Given as goal

abbrev pub invariant-loop-task : goal.invariant-loop-task
invariant-loop-task l =
    l.most ≡ greatest (map (cost_in l.measure l.level) (map task_of (take l.task-index l.tasks)))
