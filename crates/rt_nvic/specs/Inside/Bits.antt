-- The pending interrupts as words of bits, as in the set-pending registers (ARMv7-M Architecture Reference Manual,
-- section B3.4).
use Rattle.std.specs.Prelude.{ℕ, ◌==◌, Bool, List, map}
use Rattle.rt_ids.specs.Arrivals.{bit_of}
use Rattle.rt_ids.specs.Lists.{numbers_below}
use Rattle.rt_ids.specs.declared.limits.TheConstants.{IRQ_NUMBERS}

-- by number, whether its bit is set
abbrev pub flags : List ℕ → List Bool
flags words = map (λ irq. bit_of words irq == 1) (numbers_below IRQ_NUMBERS)
