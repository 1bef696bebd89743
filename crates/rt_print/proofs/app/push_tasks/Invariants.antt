-- The text so far is that of the tasks so far.
use Rattle.std.proofs.Common.{◌≡◌, ◌++◌, flat_map, map, take}
use Rattle.rt_ast.specs.View.{task_of}
use Rattle.rt_ast.specs.Canonical.{task_text}
use Rattle.rt_print.proofs.app.push_tasks.Given as goal

abbrev pub invariant-loop-task : goal.invariant-loop-task
invariant-loop-task l = l.out.items ≡ l.fn.out.items ++ flat_map task_text (map task_of (take l.task-index l.tasks))
