-- Which posts of a core are interrupts of the other core of a pair. As between the cores of a multicore
-- microcontroller, a core may ring the other's doorbell: it posts an interrupt that it does not take itself, and where
-- the other application declares an interrupt of that name, it is pended there. That names tie the two is this
-- project's own. The definitions go by names; the code looks each post up in a table of numbers.
use Rattle.std.specs.List.{list_any}
use Rattle.std.specs.Prelude.{Bool, None, Option, if◌then◌else◌, is_some, option_and_then, ℕ, ◌&&◌, ◌==◌}
use Rattle.rt_code.specs.Image.{Image}
use Rattle.rt_ids.specs.{Names.Names, Names.irq_of, Naming.irq_named}

-- the image enables the interrupt of this number, so that its core takes it
abbrev pub enables : Image → ℕ → Bool
enables img irq = list_any (λ row. (row.number == irq) && is_some row.handler) img.irqs

-- the interrupt of another application that has the name of this one
abbrev pub namesake : Names → Names → ℕ → Option ℕ
namesake names other irq = option_and_then (λ declared. irq_of other declared.0) (irq_named names irq)

-- the interrupt that a post of this one pends on the other core, whose application has these names
abbrev pub forward : Image → Names → ℕ → Option ℕ
forward img other irq = if enables img irq then None else namesake img.names other irq
