-- When the processor's registers and the interrupt controller that the model's code keeps say the same of interrupts,
-- and that the processor takes what the controller picks (ARMv7-M Architecture Reference Manual, sections B1.5.4 and
-- B3.4).
use Rattle.std.specs.Prelude.{◌≡◌, ℕ, ◌<◌, false, List, [], ◌∷◌, map, min, is_some, IsSome, IfSome, option_map}
use Rattle.rt_ids.specs.declared.limits.TheConstants.{IRQ_NUMBERS}
use Rattle.rt_core.specs.Priority.{base_value, mask_value}
use Rattle.rt_nvic.specs.Nvic as nvic
use Rattle.rt_nvic.specs.Nvic.{Nvic, IsSized}
use Rattle.rt_thumb.specs.Exceptions.{systick, external, priority_of, is_enabled, execution_priority, taken}
use Rattle.rt_thumb.specs.Machine.{Machine}

-- each active interrupt is enabled, and of a higher priority than the one that was entered before it
abbrev pub AreEnteredInTurn : Nvic → List ℕ → Type 0
AreEnteredInTurn n [] = Unit {0}
AreEnteredInTurn n (irq ∷ irqs) =
    (irq < IRQ_NUMBERS) × IsSome (nvic.priority_of n irq)
    × (nvic.priority_value n irq < nvic.value_of_first n irqs) × AreEnteredInTurn n irqs

-- The processor says the same as the controller: the same interrupts are enabled, with the same values, the same are
-- pending, and the same are active, the last entered first.
pub record AgreesWithController (n : Nvic) (m : Machine) : Type 0 where
  pub sized : IsSized n
  pub enabled : (irq : ℕ) → irq < IRQ_NUMBERS → is_enabled m (external irq) ≡ is_some (nvic.priority_of n irq)
  pub values : (irq : ℕ) → irq < IRQ_NUMBERS
      → IfSome (nvic.priority_of n irq) (λ value. priority_of m (external irq) ≡ value)
  pub pending : (irq : ℕ) → irq < IRQ_NUMBERS → m.is_pending (external irq) ≡ nvic.is_pending n irq
  pub active : m.active ≡ map external n.active
  pub in_turn : AreEnteredInTurn n n.active

-- the execution priority is that of the handler that runs, raised by the masks
abbrev pub ControllerSetsExecution : Type 0
ControllerSetsExecution = (n : Nvic) (m : Machine) → AgreesWithController n m
    → execution_priority m
    ≡ min (nvic.value_of_running n) (min (base_value m.base_priority) (mask_value m.is_masked))

-- where no tick is pending the processor takes what the controller picks
abbrev pub TakesWhatIsPicked : Type 0
TakesWhatIsPicked = (n : Nvic) (m : Machine) → AgreesWithController n m → m.is_pending systick ≡ false
    → taken m ≡ option_map external (nvic.picked_irq n (execution_priority m))
