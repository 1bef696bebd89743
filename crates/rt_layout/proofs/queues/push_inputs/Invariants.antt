-- The cells of the places below this one.
use Rattle.std.proofs.Common.{◌≡◌, ◌++◌, flat_map}
use Rattle.std.specs.List.{range_with_len}
use Rattle.rt_app.specs.View.{task_of}
use Rattle.rt_layout.specs.Inside.Rows.{input_rows}
use Rattle.rt_layout.proofs.queues.push_inputs.Given as goal

abbrev pub invariant-loop-place : goal.invariant-loop-place
invariant-loop-place l = l.cells.items ≡ l.fn.cells.items ++ flat_map (input_rows (task_of l.task))
    (range_with_len 0 l.place)
