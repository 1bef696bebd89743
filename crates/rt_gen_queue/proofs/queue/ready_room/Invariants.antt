-- The tasks that are left make up the rest.
use Rattle.rt_gen_queue.proofs.Vocabulary.{drop, ◌*◌, ◌+◌, ◌≡◌, ◌≤◌}
use Rattle.rt_gen_queue.proofs.Levels.{room_of}
use Rattle.rt_gen_queue.proofs.queue.ready_room.Given as goal

abbrev pub invariant-loop-task : goal.invariant-loop-task
invariant-loop-task l =
    (l.room + room_of l.level (drop l.task-index l.tasks) ≡ room_of l.level l.tasks) × (l.room ≤ 256 * l.task-index)
