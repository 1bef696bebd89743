use Rattle.std.proofs.Common.{◌≡◌, ◌==◌, ℕ, ◌<◌, Some, slice_get, position}
use Rattle.rt_code.specs.declared.image.IrqRow.{IrqRow}
use Rattle.rt_why.proofs.numbers.one_number.Given as goal

abbrev pub invariant-loop-index : goal.invariant-loop-index
invariant-loop-index l =
    (i : ℕ) → i < l.index → (row : IrqRow) → slice_get l.irqs i ≡ Some row
    → position (λ other. other.number == row.number) l.irqs ≡ Some i
