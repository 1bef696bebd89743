use Rattle.std.proofs.Common.{◌≡◌, ℕ, ◌-◌, ◌%◌, ◌^◌, ◌<◌, Some, slice_get}
use Rattle.rt_code.specs.declared.image.IrqRow.{IrqRow}
use Rattle.rt_code.specs.declared.image.Handler.{Handler}
use Rattle.rt_image_tables.proofs.runnable.values_are_implemented.Given as goal

abbrev pub invariant-loop-row : goal.invariant-loop-row
invariant-loop-row l =
    (i : ℕ) (row : IrqRow) (h : Handler) → i < l.row-index → slice_get l.irqs i ≡ Some row → row.handler ≡ Some h
    → h.value % 2 ^ (8 - l.bits) ≡ 0
