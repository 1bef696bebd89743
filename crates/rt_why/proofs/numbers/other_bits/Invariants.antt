use Rattle.std.proofs.Common.{◌≡◌, ℕ, ◌-◌, ◌%◌, ◌^◌, ◌<◌, Some, slice_get}
use Rattle.rt_code.specs.declared.image.IrqRow.{IrqRow}
use Rattle.rt_code.specs.declared.image.Handler.{Handler}
use Rattle.rt_why.proofs.numbers.other_bits.Given as goal

abbrev pub invariant-loop-index : goal.invariant-loop-index
invariant-loop-index l =
    (i : ℕ) (row : IrqRow) (h : Handler) → i < l.index → slice_get l.irqs i ≡ Some row → row.handler ≡ Some h
    → h.value % 2 ^ (8 - l.bits) ≡ 0
