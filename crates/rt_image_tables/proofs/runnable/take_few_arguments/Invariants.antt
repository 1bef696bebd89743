use Rattle.std.proofs.Common.{◌≡◌, ℕ, ◌<◌, ◌≤◌, Some, slice_get}
use Rattle.rt_code.specs.declared.image.BodyRow.{BodyRow}
use Rattle.rt_image_tables.proofs.runnable.take_few_arguments.Given as goal

abbrev pub invariant-loop-row : goal.invariant-loop-row
invariant-loop-row l =
    (i : ℕ) (row : BodyRow) → i < l.row-index → slice_get l.bodies i ≡ Some row → row.args ≤ 4
