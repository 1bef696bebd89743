-- What reset makes of the interrupt controller (ARMv7-M Architecture Reference Manual, sections B1.5.5 and B3.4). The
-- code sets a byte of NVIC_IPR and a bit of NVIC_ISER for each row of the image; the core of the model has the rows
-- themselves.
use Rattle.std.specs.Prelude.{◌≡◌, ℕ, ◌+◌, ◌*◌, ◌<◌, ◌≤◌, ◌⊎◌, ◌^◌, Bool, true, false, List, [], ◌∷◌, ◌++◌, length}
use Rattle.std.specs.Prelude.{flat_map, Option, Some}
use Rattle.std.specs.Prelude.{IfSome}
use Rattle.std.specs.List.{AllByRecursion}
use Rattle.rt_ids.specs.declared.limits.TheConstants.{IRQ_NUMBERS}
use Rattle.rt_code.specs.Image.{Image}
use Rattle.rt_code.specs.Runnable.{HaveNumbersApart}
use Rattle.rt_code.specs.declared.image.IrqRow.{IrqRow}
use Rattle.rt_core.specs.Core.{reset as model_reset}
use Rattle.rt_native.specs.Pieces.{bytes_of}
use Rattle.rt_native.specs.Service.{enable, reset}
use Rattle.rt_native.specs.declared.outside.Outside.{Outside}
use Rattle.rt_thumb.specs.Exceptions.{systick, external, is_enabled}
use Rattle.rt_thumb.specs.Machine.{Machine, word_at}
use Rattle.rt_thumb.specs.Step.{Program, Event, Goes, after}
use Rattle.rt_thumb.specs.declared.instruction.Instruction.{Instruction}
use Rattle.rt_thumb.specs.declared.instruction.Instruction.TheVariants as instruction
use Rattle.rt_thumb_laws.specs.Registers.{IsElsewhere}
use Rattle.rt_thumb_laws.specs.Undisturbed.{ChangeOnly, goings, with_arrivals}
use Rattle.rt_priorities.specs.Agreeing.{AgreesWith}
use Rattle.rt_priorities.specs.Lying.{LieFrom}

-- the code that sets the interrupts of an image
abbrev pub settings : Image → List Instruction
settings img = flat_map (λ row. enable row.number row.handler) img.irqs

-- the first part of the code of reset: interrupts are masked, and those of the image are set
abbrev pub first_part : Image → List Instruction
first_part img = instruction.DisableInterrupts ∷ settings img

-- the code of reset begins with it
abbrev pub ResetBeginsSo : Type 0
ResetBeginsSo = (at : Outside) (reload : Option ℕ) (img : Image) (load : ℕ)
    → (rest : List Instruction) × (reset at reload img load ≡ first_part img ++ rest)

-- the interrupt controller has a byte and a bit for each row, and no two rows have one
pub record CanBeSet (rows : List IrqRow) : Type 0 where
  pub numbers : AllByRecursion (λ row. row.number < IRQ_NUMBERS) rows
  pub values : AllByRecursion (λ row. IfSome row.handler (λ h. h.value < 2 ^ 8)) rows
  pub apart : HaveNumbersApart rows

-- the processor as reset leaves it: no interrupt is enabled, no exception is pending or active, and BASEPRI is 0
pub record IsReset (m : Machine) : Type 0 where
  pub enabled : (irq : ℕ) → irq < IRQ_NUMBERS → is_enabled m (external irq) ≡ false
  pub pending : (irq : ℕ) → irq < IRQ_NUMBERS → m.is_pending (external irq) ≡ false
  pub tick : m.is_pending systick ≡ false
  pub active : m.active ≡ []
  pub base_priority : m.base_priority ≡ 0

-- What the first part has done: the processor is behind it, and agrees with the core after reset. Memory below the
-- registers of interrupts, the system control block, from 0xE000ED00 on (section B3.2.2), the stack pointer, what is
-- pending, the exception that runs and what others saw are as they were.
pub record IsSetUp (img : Image) (before last : Machine) : Type 0 where
  pub agrees : AgreesWith img (model_reset img) last
  pub address : last.address ≡ before.address + bytes_of (first_part img)
  pub memory : (address : ℕ) → address < 0xE000E100 → word_at last address ≡ word_at before address
  pub system : (address : ℕ) → 0xE000ED00 ≤ address → word_at last address ≡ word_at before address
  pub stack : last.register 13 ≡ before.register 13
  pub is_pending : last.is_pending ≡ before.is_pending
  pub exception : last.exception ≡ before.exception
  pub seen : last.seen ≡ before.seen

-- words of memory that devices change are none of the System Control Space (section B3.2.1)
abbrev pub IsOutsideSystem : (ℕ → Bool) → Type 0
IsOutsideSystem foreign = (k : ℕ) → foreign k ≡ true → (4 * k + 4 ≤ 0xE000E000) ⊎ (0xE000F000 ≤ 4 * k)

-- Whatever comes once interrupts are masked, the processor is led to that state, in which this is pending, or in a
-- device's register.
pub record SetsUp (p : Program) (foreign : ℕ → Bool) (img : Image) (m : Machine) : Type 0 where
  pub last : Machine
  pub leads : (events : List Event) → ChangeOnly foreign events → goings events ≡ length (settings img)
      → after p (Goes ∷ events) (Some m) ≡ Some (with_arrivals events last)
  pub is_set_up : IsSetUp img m last

-- Each program that has the first part where the processor begins after reset, with a port that is none of the
-- controller's registers, sets it up.
abbrev pub ResetSetsUp : Type 0
ResetSetsUp = (p : Program) (foreign : ℕ → Bool) (img : Image) (m : Machine) → CanBeSet img.irqs
    → IsElsewhere (Some p.port) → IsOutsideSystem foreign → IsReset m → LieFrom p m.address (first_part img)
    → SetsUp p foreign img m
