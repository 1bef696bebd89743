-- How interrupts are served by the tasks so far.
use Rattle.std.proofs.Common.{take}
use Rattle.rt_app.specs.Handlers.{task_services}
use Rattle.rt_app.specs.View.{app_of}
use Rattle.rt_build.specs.Inside.Code.{entries_of}
use Rattle.rt_build.specs.Inside.Tables.{HasHandlers}
use Rattle.rt_build.proofs.tables.serve_tasks.Given as goal

abbrev pub invariant-loop-number : goal.invariant-loop-number
invariant-loop-number l =
    HasHandlers (app_of l.plan.app.now) (entries_of (app_of l.plan.app.now) l.code)
    (task_services 0 (take l.number (app_of l.plan.app.now).tasks)) l.handlers
