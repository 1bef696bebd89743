-- The lines of the tasks so far, and of those that are left.
use Rattle.std.proofs.Common.{◌≡◌, ◌++◌, map, drop}
use Rattle.rt_app.specs.View.{task_of, app_of}
use Rattle.rt_respond.specs.Answer.{late_texts}
use Rattle.rt_respond.proofs.answer.push_lates.Given as goal

abbrev pub invariant-loop-number : goal.invariant-loop-number
invariant-loop-number l =
    l.out.items ++ late_texts (app_of l.app) l.limits l.number (map task_of (drop l.number l.tasks))
    ≡ l.fn.out.items ++ late_texts (app_of l.app) l.limits 0 (map task_of l.tasks)
