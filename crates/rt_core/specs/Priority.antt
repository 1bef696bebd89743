-- The execution priority, and which interrupt is taken (ARMv7-M Architecture Reference Manual, section B1.5.4). There
-- are no sub-priorities. The code asks its interrupt controller, which keeps the first of those that are ready.
use Rattle.std.specs.Prelude.{ℕ, ◌==◌, Bool, false, ◌&&◌, ◌||◌, nat_lt, if◌then◌else◌, List, [], ◌∷◌, min}
use Rattle.std.specs.Prelude.{slice_index_or, Option, Some, None}
use Rattle.rt_ids.specs.declared.limits.TheConstants.{THREAD_VALUE}
use Rattle.rt_ids.specs.Choice.{best}
use Rattle.rt_code.specs.Image.{Image}
use Rattle.rt_code.specs.declared.image.IrqRow.{IrqRow}
use Rattle.rt_code.specs.declared.image.Handler.{Handler}
use Rattle.rt_core.specs.Core.{Core, Context}

-- the value of a handler, and for none that of the thread, which is lower than every priority
abbrev pub value_or_none : Option Handler → ℕ
value_or_none None = THREAD_VALUE
value_or_none (Some h) = h.value

-- The priority value of the handler that was entered last, or that of the thread. The manual (ARMv7-M Architecture
-- Reference Manual, section B1.5.4) takes the most urgent of all active ones. It is this one, since a handler is
-- entered only where it is more urgent than the execution priority, and the last entered returns first.
abbrev pub running_value : List Context → ℕ
running_value [] = THREAD_VALUE
running_value (x ∷ below) = x.value

-- the value that BASEPRI holds the execution priority to
abbrev pub base_value : ℕ → ℕ
base_value basepri = if basepri == 0 then THREAD_VALUE else basepri

-- the value that PRIMASK holds the execution priority to
abbrev pub mask_value : Bool → ℕ
mask_value primask = if primask then 0 else THREAD_VALUE

-- the execution priority: the most urgent of what runs, BASEPRI and PRIMASK
abbrev pub execution : Core → ℕ
execution c = min (running_value c.below) (min (base_value c.processor.basepri) (mask_value c.processor.primask))

-- an interrupt is pending, enabled and of a priority strictly higher than the execution priority
abbrev pub can_preempt : Core → IrqRow → Bool
can_preempt c row = slice_index_or c.pending row.number false && nat_lt (value_or_none row.handler) (execution c)

-- an interrupt is of a higher priority than another, or of an equal one with the lower exception number
abbrev pub precedes : IrqRow → IrqRow → Bool
precedes row other =
    nat_lt (value_or_none row.handler) (value_or_none other.handler)
    || ((value_or_none row.handler == value_or_none other.handler) && nat_lt row.number other.number)

-- the interrupt that is taken next
abbrev pub pick : Image → Core → Option IrqRow
pick img c = best (can_preempt c) precedes img.irqs
