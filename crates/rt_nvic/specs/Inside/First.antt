-- Below which priority value an interrupt is taken in place of the one that was chosen.
use Rattle.std.specs.Prelude.{ℕ, Option, Some, None}
use Rattle.rt_nvic.specs.Nvic.{Nvic, priority_value}

-- a value below this one is taken in place of what was chosen
abbrev pub value_bound : Nvic → ℕ → Option ℕ → ℕ
value_bound n exec None = exec
value_bound n exec (Some irq) = priority_value n irq
