-- What comes of a step, and how a trap ends it.
use Rattle.std.specs.Prelude.{true, Option, Some}
use Rattle.rt_code.specs.declared.processor.Trap.{Trap}
use Rattle.rt_code.specs.Trap.{trap_number}
use Rattle.rt_trace.specs.declared.item.What.{What}
use Rattle.rt_trace.specs.declared.item.What.TheVariants as what
use Rattle.rt_core.specs.Core.{Core}

-- what comes of a core step: a trap, or the core after the step with the item that it gives
pub data Outcome : Type 0 where
  -- the core as a trap finds it
  Trapped : (core : Core) → (trap : Trap) → Outcome
  -- the core after the step, and the item that it gives
  Done : (core : Core) → (shown : Option What) → Outcome

-- a trap stops the core, and shows its number
abbrev pub settle : Outcome → Core × Option What
settle (Trapped c trap) = (record c { stopped = true }, Some (what.Trap (trap_number trap)))
settle (Done c shown) = (c, shown)
