-- The layout with the queues of the tasks so far.
use Rattle.std.proofs.Common.{◌≡◌, map, take}
use Rattle.std.specs.List.{fold}
use Rattle.rt_app.specs.View.{task_of}
use Rattle.rt_layout.specs.Inside.Growing.{with_task}
use Rattle.rt_layout.proofs.memory.push_tasks.Given as goal

abbrev pub invariant-loop-task : goal.invariant-loop-task
invariant-loop-task l = l.layout ≡ fold with_task l.fn.layout (map task_of (take l.task-index l.tasks))
