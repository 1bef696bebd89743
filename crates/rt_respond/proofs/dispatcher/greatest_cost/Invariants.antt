-- The greatest of the tasks so far.
use Rattle.std.proofs.Common.{◌≡◌, map, take}
use Rattle.rt_app.specs.View.{task_of}
use Rattle.rt_respond.proofs.Dispatchers.{dearest}
use Rattle.rt_respond.proofs.dispatcher.greatest_cost.Given as goal

abbrev pub invariant-loop-task : goal.invariant-loop-task
invariant-loop-task l = l.most ≡ dearest l.measure l.level (map task_of (take l.task-index l.tasks))
