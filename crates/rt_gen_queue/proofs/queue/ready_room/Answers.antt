use Rattle.rt_gen_queue.proofs.Vocabulary.{ap, arith, drop, drop_as_cons, ◌+◌}
use Rattle.rt_gen_queue.proofs.Levels.{room_first, room_of}
use Rattle.rt_gen_queue.proofs.queue.ready_room.Goals as goal

pub loop-task-preserved : goal.loop-task-preserved
loop-task-preserved c =
    let first = room_first c.args.level c.task-item.result (drop (c.loop-task.task-index + 1) c.args.tasks.now) in
    let left = ap (room_of c.args.level)
    (drop_as_cons c.args.tasks.now c.loop-task.task-index c.task-item.result c.loop-task-test.true c.task-item.is) in (
      omega (arith, c.loop-task.invariant.0, c.capacity_at-room.ensures.is),
      omega (arith, c.loop-task.invariant.1, c.capacity_at-room.ensures.few),
    )

pub overflow_add-room : goal.overflow_add-room
overflow_add-room c =
    omega (arith, c.loop-task.invariant.1, c.capacity_at-room.ensures.few, c.requires.few, c.loop-task-test.true)
