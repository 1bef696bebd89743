-- The rows of the interrupts so far.
use Rattle.std.proofs.Common.{◌≡◌, length, map, take}
use Rattle.std.specs.List.{zip}
use Rattle.rt_build.specs.Inside.Tables.{irq_row}
use Rattle.rt_build.proofs.tables.irq_rows.Given as goal

abbrev pub invariant-loop-irq : goal.invariant-loop-irq
invariant-loop-irq l = l.rows.items ≡ map (λ (irq, handler). irq_row irq handler)
    (take (length l.yielded) (zip l.irqs l.handlers))
