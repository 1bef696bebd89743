-- The rooms of the tasks so far, each of which has added less than 2^8.
use Rattle.std.proofs.Common.{ℕ, ◌*◌, ◌<◌, ◌≤◌, map, take}
use Rattle.std.specs.Prelude.{slice_index}
use Rattle.rt_app.specs.View.{task_of}
use Rattle.rt_layout.specs.Inside.Rooms.{HasRooms}
use Rattle.rt_layout.proofs.rooms.rooms.Given as goal

abbrev pub invariant-loop-task : goal.invariant-loop-task
invariant-loop-task l = record {
  has : HasRooms (map task_of (take l.task-index l.tasks)) l.rooms;
  few : (p : ℕ) → p < 256 → slice_index l.rooms p ≤ 256 * l.task-index;
}
