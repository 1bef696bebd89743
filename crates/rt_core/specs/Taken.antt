-- Which interrupt is taken, by what is true of it (ARMv7-M Architecture Reference Manual, section B1.5.4): of those
-- that are pending, enabled and of a higher priority than the execution priority, the one of the highest priority, and
-- of equal ones the one of the lowest number. The choice that the core makes is one pass over the rows.
use Rattle.std.specs.Prelude.{◌≡◌, ◌<◌, ◌≤◌, ◌⊎◌}
use Rattle.rt_ids.specs.Choice.{IsBest}
use Rattle.rt_code.specs.Image.{Image}
use Rattle.rt_code.specs.declared.image.IrqRow.{IrqRow}
use Rattle.rt_core.specs.Core.{Core}
use Rattle.rt_core.specs.Priority.{value_or_none, can_preempt, pick}

-- the first is of a higher priority, or of the same with no greater number
abbrev pub NoLater : IrqRow → IrqRow → Type 0
NoLater x y =
    (value_or_none x.handler < value_or_none y.handler)
    ⊎ ((value_or_none x.handler ≡ value_or_none y.handler) × (x.number ≤ y.number))

-- Of the interrupts that can preempt, a core takes the one of the highest priority, and of equal ones the one of the
-- lowest number. It takes none only where there is none.
abbrev pub TakesTheFirst : Type 0
TakesTheFirst = (img : Image) (c : Core) → IsBest (can_preempt c) NoLater img.irqs (pick img c)
