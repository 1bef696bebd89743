use Rattle.std.proofs.Common.{arith}
use Rattle.rt_frames.specs.Inside.Needs.{need_at}
use Rattle.rt_frames.proofs.Handlers.{greatest_more}
use Rattle.rt_frames.proofs.stack.tasks_need.Goals as goal

pub loop-task-preserved : goal.loop-task-preserved
loop-task-preserved c = omega (
  arith,
  greatest_more (need_at c.args.priority) c.args.tasks.now c.loop-task.task-index
      c.task-item.result c.loop-task-test.true c.task-item.is,
)
