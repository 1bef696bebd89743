-- The external interrupts of the nested vectored interrupt controller (ARMv7-M Architecture Reference Manual, sections
-- B1.5 and B3.4): which of them are enabled, pending and active, and which one is taken. There are no sub-priorities.
-- The choice is one among all numbers; the code keeps the first of the ready ones at hand, and the active ones in an
-- array that fills downwards.
use Rattle.std.specs.Prelude.{◌≡◌, ℕ, ◌<◌, ◌≤◌, ◌⊎◌, ◌&&◌, Bool, false, nat_lt, nat_le, List, [], ◌∷◌, length}
use Rattle.std.specs.Prelude.{slice_index_or, Option, Some, None, unwrap_or, IsTrue, IsSome}
use Rattle.rt_ids.specs.Lists.{numbers_below}
use Rattle.rt_ids.specs.declared.limits.TheConstants.{IRQ_NUMBERS, THREAD_VALUE}
use Rattle.rt_ids.specs.Choice.{best}
use Rattle.rt_nvic.specs.declared.sizes.TheConstants.{ACTIVE}

-- the external interrupts of the controller: the enabled ones with their priority values, the pending and the active
-- ones
pub record Nvic : Type 0 where
  -- by number, the priority value of an enabled interrupt, and None for another
  pub priorities : List (Option ℕ)
  -- by number
  pub pending : List Bool
  -- their numbers, last entered first
  pub active : List ℕ

-- the lists of a controller are as long as they have to be
pub record IsSized (n : Nvic) : Type 0 where
  pub priorities : length n.priorities ≡ IRQ_NUMBERS
  pub pending : length n.pending ≡ IRQ_NUMBERS
  pub active : length n.active ≤ ACTIVE

-- whether an interrupt is pending
abbrev pub is_pending : Nvic → ℕ → Bool
is_pending n irq = slice_index_or n.pending irq false

-- the priority value of an enabled interrupt: a smaller value is a higher priority
abbrev pub priority_of : Nvic → ℕ → Option ℕ
priority_of n irq = slice_index_or n.priorities irq None

-- the priority value of an interrupt, and that of the thread for one that is not enabled
abbrev pub priority_value : Nvic → ℕ → ℕ
priority_value n irq = unwrap_or (priority_of n irq) THREAD_VALUE

-- the priority value of the first of these, and that of the thread where there is none
abbrev pub value_of_first : Nvic → List ℕ → ℕ
value_of_first n [] = THREAD_VALUE
value_of_first n (irq ∷ irqs) = priority_value n irq

-- the priority value of the handler that runs
abbrev pub value_of_running : Nvic → ℕ
value_of_running n = value_of_first n n.active

-- An interrupt may be taken at this execution priority: it is pending and enabled, and its priority is higher.
pub record IsReady (n : Nvic) (exec irq : ℕ) : Type 0 where
  pub pending : IsTrue (is_pending n irq)
  pub enabled : IsSome (priority_of n irq)
  pub higher : priority_value n irq < exec

-- Of two interrupts that are ready this one is taken first: it has the higher priority, or one that is the same and no
-- greater number.
abbrev pub Precedes : Nvic → ℕ → ℕ → Type 0
Precedes n irq other =
    (priority_value n irq < priority_value n other) ⊎ ((priority_value n irq ≡ priority_value n other) × (irq ≤ other))

-- The same choice as one function: of those that pass the test, the one that no later one beats.

-- whether an interrupt with this priority value is enabled, and of a higher priority than the execution priority
abbrev pub is_below : Option ℕ → ℕ → Bool
is_below None exec = false
is_below (Some value) exec = nat_lt value exec

-- whether an interrupt may be taken at this execution priority
abbrev pub is_ready : Nvic → ℕ → ℕ → Bool
is_ready n exec irq = is_pending n irq && is_below (priority_of n irq) exec

-- whether an interrupt is taken before a later one, which has a greater number
abbrev pub beats : Nvic → ℕ → ℕ → Bool
beats n irq later = nat_le (priority_value n irq) (priority_value n later)

-- the interrupt that is taken at this execution priority
abbrev pub picked_irq : Nvic → ℕ → Option ℕ
picked_irq n exec = best (is_ready n exec) (beats n) (numbers_below IRQ_NUMBERS)
