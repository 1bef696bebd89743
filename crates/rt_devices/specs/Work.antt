-- What a device does to the pending words. It is this project's own.
use Rattle.std.specs.Prelude.{◌≡◌, ℕ, List, ◌++◌, Option, Some, None, map, flat_map, replicate}
use Rattle.rt_words.specs.declared.call.Call.{Call}
use Rattle.rt_words.specs.{declared.call.Call.TheVariants.Latch, declared.call.Call.TheVariants.Pend, Row.bit_in_row}
use Rattle.rt_devices.specs.declared.device.Device.{Device}

-- the interrupts that a script asks for, each as often as its entry says
abbrev pub requests : List (ℕ × ℕ) → List ℕ
requests script = flat_map (λ entry. replicate entry.1 entry.0) script

-- the interrupt that a call asked for, by its bit of the row: of core 0 that is its number
abbrev pub interrupt_asked : Call → Option ℕ
interrupt_asked (Pend bit answer) = Some bit
interrupt_asked (Latch k word) = None

-- The device has called its line further, and asked for just these interrupts of the core that the line pends, in this
-- order, each once. Nothing else of it has changed: what it did is told by the calls of its line.
pub record Works (irqs : List ℕ) (old new : Device) : Type 0 where
  pub calls : List Call
  pub asked : map interrupt_asked calls ≡ map (λ irq. Some (bit_in_row old.line.there irq)) irqs
  pub same : new ≡ record old { line = record old.line { calls = old.line.calls ++ calls } }
