-- Which exception is taken, by what is true of it (ARMv7-M Architecture Reference Manual, section B1.5.4): of those
-- that may be taken, the one of the highest priority, and of equal ones the one of the lowest number. The processor's
-- definition makes the choice in one pass over all numbers.
use Rattle.std.specs.Prelude.{◌≡◌, ◌≢◌, ◌↔◌, ◌⊎◌, ℕ, ◌<◌, ◌≤◌, true, Some, None, Contains}
use Rattle.std.specs.List.{AllByRecursion}
use Rattle.rt_thumb.specs.Exceptions.{systick, priority_of, is_enabled, execution_priority, taken}
use Rattle.rt_thumb.specs.Machine.{Machine}

-- an exception may be taken: it is SysTick or an external interrupt, pending, enabled, and of a higher priority than
-- the execution priority, which is a smaller value
pub record MayBeTaken (m : Machine) (e : ℕ) : Type 0 where
  pub first : systick ≤ e
  pub last : e < 512
  pub pending : m.is_pending e ≡ true
  pub enabled : is_enabled m e ≡ true
  pub higher : priority_of m e < execution_priority m

-- an exception is of a higher priority than another, or of the same one with no greater number
abbrev pub Precedes : Machine → ℕ → ℕ → Type 0
Precedes m e other =
    (priority_of m e < priority_of m other) ⊎ ((priority_of m e ≡ priority_of m other) × (e ≤ other))

-- an exception comes first: it may be taken, and precedes each other that may be
pub record ComesFirst (m : Machine) (e : ℕ) : Type 0 where
  pub may : MayBeTaken m e
  pub precedes : (other : ℕ) → MayBeTaken m other → Precedes m e other

-- exactly the one that comes first is taken, and none exactly where none may be
pub record TakesTheFirst (m : Machine) : Type 0 where
  pub first : (e : ℕ) → (taken m ≡ Some e) ↔ ComesFirst m e
  pub none : (taken m ≡ None) ↔ ((e : ℕ) → MayBeTaken m e → ⊥)

abbrev pub TheFirstIsTaken : Type 0
TheFirstIsTaken = (m : Machine) → TakesTheFirst m

-- an exception that is taken is of a higher priority than each that is active, so it is none of them
abbrev pub PreemptsAll : Machine → ℕ → Type 0
PreemptsAll m e = AllByRecursion (λ other. (priority_of m e < priority_of m other) × (other ≢ e)) m.active

abbrev pub WhatIsTakenPreempts : Type 0
WhatIsTakenPreempts = (m : Machine) (e : ℕ) → taken m ≡ Some e → PreemptsAll m e

-- SysTick, where it has the highest priority, is taken before all others, as soon as any may be
abbrev pub TicksComeFirst : Type 0
TicksComeFirst = (m : Machine) → priority_of m systick ≡ 0 → m.is_pending systick ≡ true → 0 < execution_priority m
    → taken m ≡ Some systick

-- and while it is active none is taken
abbrev pub NothingPreemptsATick : Type 0
NothingPreemptsATick = (m : Machine) → priority_of m systick ≡ 0 → Contains m.active systick → taken m ≡ None
