-- What happens to a core, one thing at a time: an interrupt request arrives, the system timer ticks, or the core
-- takes one step of its own (one exception entry or one instruction).
use Rattle.std.specs.Prelude.{ℕ, List, [], ◌∷◌, suc, zero}

-- one thing that happens to a core: the request of an interrupt, a tick of the system timer, or a step of the core
pub data Event : Type 0 where
  Arrive : (irq : ℕ) → Event
  Tick : Event
  Step : Event

-- how many of these events are steps of the core
abbrev pub steps : List Event → ℕ
steps [] = zero
steps (Step ∷ events) = suc (steps events)
steps (Tick ∷ events) = steps events
steps (Arrive irq ∷ events) = steps events
