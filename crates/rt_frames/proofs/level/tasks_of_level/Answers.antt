use Rattle.std.proofs.Common.{ap, arith}
use Rattle.std.specs.Int.{from_bool}
use Rattle.rt_app.specs.Level.{is_of_level}
use Rattle.rt_frames.proofs.Sums.{count_task_more, count_task_few, from_bool_most}
use Rattle.rt_frames.proofs.level.tasks_of_level.Goals as goal

pub loop-task-preserved : goal.loop-task-preserved
loop-task-preserved c = omega (
  arith,
  ap from_bool c.is_of_level.ensures,
  count_task_more (is_of_level c.args.priority) c.args.tasks.now c.loop-task.task-index c.task-item.result
      c.loop-task-test.true c.task-item.is,
)

pub overflow_add-count : goal.overflow_add-count
overflow_add-count c = omega (
  arith,
  count_task_few (is_of_level c.args.priority) c.args.tasks.now
      c.loop-task.task-index,
  from_bool_most c.is_of_level.result,
)
