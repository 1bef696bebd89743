-- Where an exception's entry leads (ARMv7-M Architecture Reference Manual, sections B1.5.3 and B1.5.6): to the address
-- in its vector. A program of rt_native has the vectors of its own code, so an entry leads to the code that it has for
-- the exception. The core of the model begins a handler at its row's entry.
use Rattle.std.specs.Prelude.{◌≡◌, ℕ, ◌+◌, ◌*◌, ◌<◌, List, length, Some, slice_get, slice_index}
use Rattle.rt_code.specs.Image.{Image}
use Rattle.rt_code.specs.Runnable.{HaveNumbersApart}
use Rattle.rt_code.specs.declared.image.Handler.{Handler}
use Rattle.rt_code.specs.declared.image.IrqRow.{IrqRow}
use Rattle.rt_native.specs.Fitting.{IsRegion, FitsFlash}
use Rattle.rt_native.specs.Layout.{outside, places, stub_places, fault_at}
use Rattle.rt_native.specs.Program.{vectors, instructions}
use Rattle.rt_native.specs.Service.{entrance, timer_irq}
use Rattle.rt_native.specs.Target.{Target}
use Rattle.rt_thumb.specs.Exceptions.{external, entered}
use Rattle.rt_thumb.specs.Machine.{Machine, word_at}
use Rattle.rt_thumb.specs.Step.{Program}
use Rattle.rt_thumb.specs.declared.instruction.Instruction.{Instruction}
use Rattle.rt_priorities.specs.Lying.{LieFrom}
use Rattle.rt_priorities.specs.Ticking.{ServesTicks}

-- The program of an image lies in flash, where the processor finds it: VTOR has the address of its vector table, whose
-- words are in memory, and its instructions lie behind the table.
pub record IsLoaded (img : Image) (target : Target) (p : Program) (m : Machine) : Type 0 where
  pub region : IsRegion target.flash
  pub fits : FitsFlash img target
  pub table : word_at m 0xE000ED08 ≡ target.flash.address
  pub words : (k : ℕ) → k < length (vectors img target)
      → word_at m (target.flash.address + 4 * k) ≡ slice_index (vectors img target) k
  pub code : LieFrom p (fault_at img target) (instructions img target)

-- an exception is entered at a place where some code lies
pub record EntersAt (p : Program) (m : Machine) (e place : ℕ) (code : List Instruction) : Type 0 where
  pub address : (entered e m).address ≡ place
  pub lies : LieFrom p place code

-- That of an interrupt leads to what rt_native has for its row: what runs first as it is taken, and the branch to the
-- handler's code.
abbrev pub EntriesLead : Type 0
EntriesLead = (img : Image) (target : Target) (p : Program) (m : Machine) → IsLoaded img target p m
    → HaveNumbersApart img.irqs → (k : ℕ) (row : IrqRow) (h : Handler) → slice_get img.irqs k ≡ Some row
    → row.handler ≡ Some h
    → EntersAt p m (external row.number) (slice_index (stub_places img target) k)
    (entrance (outside img target) target (places img target) (slice_index (stub_places img target) (k + 1)) row)

-- that of SysTick leads to the code of a tick
abbrev pub TicksLead : Type 0
TicksLead = (img : Image) (target : Target) (p : Program) (m : Machine) → IsLoaded img target p m
    → ServesTicks p (outside img target) (timer_irq img.code) m
