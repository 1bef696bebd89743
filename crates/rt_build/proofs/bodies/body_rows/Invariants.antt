-- The rows of the tasks so far.
use Rattle.std.proofs.Common.{◌≡◌, take}
use Rattle.rt_app.specs.View.{app_of}
use Rattle.rt_gen_queue.specs.Called.{rows_for}
use Rattle.rt_build.specs.Inside.Code.{entries_of}
use Rattle.rt_build.proofs.bodies.body_rows.Given as goal

abbrev pub invariant-loop-number : goal.invariant-loop-number
invariant-loop-number l =
    l.rows.items ≡ rows_for (entries_of (app_of l.plan.app.now) l.code).task 0
    (take l.number (app_of l.plan.app.now).tasks)
