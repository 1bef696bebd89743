-- The tasks and the faults so far are those of the trees so far, and those to come keep the limits.
use Rattle.std.proofs.Common.{◌≡◌, ◌++◌, map, flat_map, take, drop}
use Rattle.std.specs.List.{AllByRecursion}
use Rattle.rt_ast.specs.View as written
use Rattle.rt_ast.specs.Printable.{IsPrintableTask}
use Rattle.rt_app.specs.View as built
use Rattle.rt_resolve.specs.Resolved as meant
use Rattle.rt_resolve.specs.NameRules as rules_on
use Rattle.rt_resolve.proofs.app.resolve_tasks.Given as goal

abbrev pub invariant-loop-task : goal.invariant-loop-task
invariant-loop-task l = record {
  trees : map built.task_of l.resolved.items ≡ map (meant.task (written.app_of l.app))
      (map written.task_of (take l.task-index l.tasks));
  faults : l.faults.items ≡ l.fn.faults.items ++ flat_map (rules_on.task_faults (written.app_of l.app))
      (map written.task_of (take l.task-index l.tasks));
  printable : AllByRecursion IsPrintableTask (map written.task_of (drop l.task-index l.tasks));
}
