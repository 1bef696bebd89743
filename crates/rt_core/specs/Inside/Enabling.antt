-- How far the interrupt controller has been given the priority values of an image.
use Rattle.std.specs.Prelude.{◌≡◌, ℕ, ◌<◌, ◌≤◌, length, None, option_map}
use Rattle.rt_ids.specs.declared.limits.TheConstants.{IRQ_NUMBERS}
use Rattle.rt_code.specs.Image.{Image}
use Rattle.rt_nvic.specs.Nvic.{Nvic, priority_of}
use Rattle.rt_code.specs.Tables.{handler_of}

-- the interrupts below this number are enabled as the image says, and no other
pub record HasPrioritiesBelow (number : ℕ) (img : Image) (n : Nvic) : Type 0 where
  pub long : length n.priorities ≡ IRQ_NUMBERS
  pub below : (irq : ℕ) → irq < number → priority_of n irq ≡ option_map (λ h. h.value) (handler_of img irq)
  pub rest : (irq : ℕ) → number ≤ irq → priority_of n irq ≡ None
