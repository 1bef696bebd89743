-- Which items are those of an exception entry (ARMv7-M Architecture Reference Manual, section B1.5.6).
use Rattle.std.specs.Prelude.{Option, Some}
use Rattle.rt_trace.specs.declared.item.What.{What}
use Rattle.rt_trace.specs.declared.item.What.TheVariants as what

-- what a core step shows is that an interrupt is taken
abbrev pub IsTake : Option What → Type 0
IsTake (Some (what.Take irq depth)) = Unit {0}
IsTake shown = ⊥
