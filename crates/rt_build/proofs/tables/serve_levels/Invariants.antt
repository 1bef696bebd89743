-- How interrupts are served by the tasks, and by the dispatchers so far.
use Rattle.rt_app.specs.View.{app_of}
use Rattle.rt_build.specs.Inside.Code.{entries_of}
use Rattle.rt_build.specs.Inside.Tables.{HasHandlers}
use Rattle.rt_build.proofs.Services.{served_below}
use Rattle.rt_build.proofs.tables.serve_levels.Given as goal

abbrev pub invariant-loop-index : goal.invariant-loop-index
invariant-loop-index l =
    HasHandlers (app_of l.plan.app.now) (entries_of (app_of l.plan.app.now) l.code)
    (served_below (app_of l.plan.app.now) l.index) l.handlers
