-- When the processor and the core of the model say the same of interrupts and priorities, and what follows: they have
-- one execution priority, and take the same interrupt. The processor has registers for it (ARMv7-M Architecture
-- Reference Manual, sections B1.4, B3.2 and B3.4), the core its image's rows, its masks and its contexts.
use Rattle.std.specs.Prelude.{◌≡◌, ◌≢◌, ℕ, ◌<◌, false, List, [], ◌∷◌, map, slice_index_or, is_some, IfSome, option_map}
use Rattle.std.specs.List.{AllByRecursion}
use Rattle.rt_ids.specs.Choice.{IsIn}
use Rattle.rt_ids.specs.declared.limits.TheConstants.{IRQ_NUMBERS}
use Rattle.rt_code.specs.Image.{Image}
use Rattle.rt_code.specs.declared.image.IrqRow.{IrqRow}
use Rattle.rt_core.specs.Core.{Core, Context}
use Rattle.rt_core.specs.Priority.{running_value, execution, pick}
use Rattle.rt_thumb.specs.Exceptions.{systick, external, priority_of, is_enabled, execution_priority, taken}
use Rattle.rt_thumb.specs.Machine.{Machine}

-- the registers set a declared interrupt as its row does: enabled where it has a handler, and then with its value
pub record IsSetAs (m : Machine) (row : IrqRow) : Type 0 where
  pub number : row.number < IRQ_NUMBERS
  pub enabled : is_enabled m (external row.number) ≡ is_some row.handler
  pub value : IfSome row.handler (λ h. priority_of m (external row.number) ≡ h.value)

-- an interrupt has no row
abbrev pub IsUndeclared : List IrqRow → ℕ → Type 0
IsUndeclared rows irq = (row : IrqRow) → IsIn rows row → row.number ≢ irq

-- the registers set an active interrupt to the priority that it was taken at
pub record IsActiveAs (m : Machine) (x : Context) : Type 0 where
  pub number : x.irq < IRQ_NUMBERS
  pub value : priority_of m (external x.irq) ≡ x.value

-- each handler has a higher priority than what it interrupted
abbrev pub AreNested : List Context → Type 0
AreNested [] = Unit {0}
AreNested (x ∷ below) = (x.value < running_value below) × AreNested below

-- The processor says the same as the core: each declared interrupt is set as its row does, and no other is enabled; the
-- same are pending; both have the same masks; and the same handlers are active, the last taken first, each of a higher
-- priority than what it interrupted.
pub record AgreesWith (img : Image) (c : Core) (m : Machine) : Type 0 where
  pub declared : AllByRecursion (IsSetAs m) img.irqs
  pub undeclared : (irq : ℕ) → irq < IRQ_NUMBERS → IsUndeclared img.irqs irq → is_enabled m (external irq) ≡ false
  pub pending : (irq : ℕ) → irq < IRQ_NUMBERS → m.is_pending (external irq) ≡ slice_index_or c.pending irq false
  pub base_priority : m.base_priority ≡ c.processor.basepri
  pub is_masked : m.is_masked ≡ c.processor.primask
  pub active : m.active ≡ map (λ x. external x.irq) c.below
  pub values : AllByRecursion (IsActiveAs m) c.below
  pub nested : AreNested c.below

-- they have one execution priority
abbrev pub ExecutionPrioritiesAgree : Type 0
ExecutionPrioritiesAgree = (img : Image) (c : Core) (m : Machine) → AgreesWith img c m
    → execution_priority m ≡ execution c

-- where no tick is pending they take the same interrupt, or none
abbrev pub TheyTakeTheSame : Type 0
TheyTakeTheSame = (img : Image) (c : Core) (m : Machine) → AgreesWith img c m → m.is_pending systick ≡ false
    → taken m ≡ option_map (λ row. external row.number) (pick img c)
