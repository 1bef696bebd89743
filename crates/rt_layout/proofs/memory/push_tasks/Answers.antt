use Rattle.rt_layout.proofs.Growing.{few_with_next}
use Rattle.rt_layout.proofs.memory.push_tasks.Goals as goal

pub push_task-requires : goal.push_task-requires
push_task-requires c = record {
  room = few_with_next c.args.layout.now c.loop-task.layout c.args.tasks.now c.loop-task.task-index c.task-item.result
      c.loop-task-test.true c.task-item.is c.loop-task.invariant c.requires.room;
}
