-- The ceilings of the tasks so far.
use Rattle.std.proofs.Common.{◌≡◌, map, take}
use Rattle.rt_app.specs.View.{task_of}
use Rattle.rt_ceil.specs.Inside.Rows as rows
use Rattle.rt_ceil.proofs.rows.free_rows.Given as goal

abbrev pub invariant-loop-number : goal.invariant-loop-number
invariant-loop-number l = l.free.items ≡ rows.free_rows l.table 0 (map task_of (take l.number l.tasks))
