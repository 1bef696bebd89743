use Rattle.std.proofs.Common.{arith}
use Rattle.rt_app.specs.View.{app_of}
use Rattle.rt_frames.proofs.Waits.{tasks_wait_more}
use Rattle.rt_frames.proofs.waiting.tasks_wait.Goals as goal

pub loop-number-preserved : goal.loop-number-preserved
loop-number-preserved c =
    omega (
      arith,
      tasks_wait_more (app_of c.args.app.now) c.args.measure.now c.args.ceilings.now c.args.priority
          c.args.app.now.tasks.items c.loop-number.number c.index-task.result.now (omega arith) c.index-task.ensures,
    )
