-- The handlers of the tasks so far, and of those that are left.
use Rattle.std.proofs.Common.{◌≡◌, ◌++◌, map, drop}
use Rattle.rt_app.specs.View.{task_of, app_of}
use Rattle.rt_respond.specs.Handlers.{task_handlers}
use Rattle.rt_respond.proofs.handler.push_handlers.Given as goal

abbrev pub invariant-loop-number : goal.invariant-loop-number
invariant-loop-number l =
    l.all.items ++ task_handlers (app_of l.app) l.number (map task_of (drop l.number l.tasks))
    ≡ l.fn.all.items ++ task_handlers (app_of l.app) 0 (map task_of l.tasks)
