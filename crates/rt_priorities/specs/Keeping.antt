-- What the processor and the core do together leaves them agreeing: an interrupt is entered by both, both return from
-- it, it arrives at both, and whatever else both do as long as it leaves the registers of the interrupt controller and
-- the active handlers (ARMv7-M Architecture Reference Manual, sections B1.5.6, B1.5.8 and B3.4).
use Rattle.std.specs.Prelude.{◌≡◌, ℕ, ◌<◌, ◌≤◌, false, length, slice_index_or, Option, Some}
use Rattle.rt_ids.specs.declared.limits.TheConstants.{IRQ_NUMBERS}
use Rattle.rt_code.specs.Image.{Image}
use Rattle.rt_code.specs.declared.image.Handler.{Handler}
use Rattle.rt_code.specs.declared.image.IrqRow.{IrqRow}
use Rattle.rt_core.specs.Core.{Core, exception_number}
use Rattle.rt_core.specs.Outcome.{Done}
use Rattle.rt_core.specs.Priority.{pick}
use Rattle.rt_core.specs.Transfer.{core_after_entry, core_after_pend, exception_return}
use Rattle.rt_thumb.specs.Exceptions.{external, entered, returned}
use Rattle.rt_thumb.specs.Machine.{Machine}
use Rattle.rt_thumb.specs.Step.{pended}
use Rattle.rt_thumb_laws.specs.Registers.{KeepsRegisters}
use Rattle.rt_trace.specs.declared.item.What.{What}
use Rattle.rt_priorities.specs.Agreeing.{AgreesWith}

-- both enter the interrupt that the core picks, with the stack below the registers
abbrev pub EntriesKeepAgreeing : Type 0
EntriesKeepAgreeing = (img : Image) (c : Core) (m : Machine) (row : IrqRow) (h : Handler) → AgreesWith img c m
    → pick img c ≡ Some row → row.handler ≡ Some h → 36 ≤ m.register 13 → m.register 13 ≤ 0xE000E100
    → AgreesWith img (core_after_entry c row.number h) (entered (external row.number) m)

-- both return from the handler that runs
abbrev pub ReturnsKeepAgreeing : Type 0
ReturnsKeepAgreeing = (img : Image) (c after : Core) (said : Option What) (m next : Machine) (value : ℕ)
    → AgreesWith img c m → m.exception ≡ exception_number c.below → exception_return c ≡ Done after said
    → returned value m ≡ Some next → AgreesWith img after next

-- an interrupt arrives at both
abbrev pub ArrivalsKeepAgreeing : Type 0
ArrivalsKeepAgreeing = (img : Image) (c : Core) (m : Machine) (irq : ℕ) → AgreesWith img c m → irq < IRQ_NUMBERS
    → length c.pending ≡ IRQ_NUMBERS → AgreesWith img (core_after_pend c irq) (pended (external irq) m)

-- both have gone on, the same handlers active, and have the same masks and the same interrupts pending
pub record GoTogether (c after : Core) (m next : Machine) : Type 0 where
  pub registers : KeepsRegisters m next
  pub handlers : next.active ≡ m.active
  pub contexts : after.below ≡ c.below
  pub base_priority : next.base_priority ≡ after.processor.basepri
  pub is_masked : next.is_masked ≡ after.processor.primask
  pub pending : (irq : ℕ) → irq < IRQ_NUMBERS
      → next.is_pending (external irq) ≡ slice_index_or after.pending irq false

abbrev pub OthersKeepAgreeing : Type 0
OthersKeepAgreeing = (img : Image) (c after : Core) (m next : Machine) → AgreesWith img c m
    → GoTogether c after m next → AgreesWith img after next
