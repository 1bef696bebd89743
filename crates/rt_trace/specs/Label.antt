-- What a core, or Baker's machine, does one thing after another, as others see it, as in a labelled transition system
-- (Milner, Communication and Concurrency, 1989), and the items that number it. The numbers stand apart from what
-- happens: a machine gives labels, and a trace counts the core steps before each.
use Rattle.std.specs.Prelude.{ℕ, zero, suc, List, [], ◌∷◌, Option, Some, None}
use Rattle.rt_trace.specs.declared.item.Item.{Item}
use Rattle.rt_trace.specs.declared.item.What.{What}
use Rattle.rt_trace.specs.declared.item.What.TheVariants as what

-- a label of a transition: an arrival, a tick, an alarm, or a step of the core with the item that it shows
pub data Label : Type 0 where
  -- an interrupt request arrives
  Arrived : (irq : ℕ) → Label
  -- the time rises
  Ticked : Label
  -- the alarm of a tick comes, which is no step
  Rang : Label
  -- the core takes a step, which gives an item or is silent
  Stepped : (shown : Option What) → Label

-- The items of labels, from a number of core steps on. An item has the number of steps before it.
abbrev pub items_of : ℕ → List Label → List Item
items_of n [] = []
items_of n (Arrived irq ∷ labels) = record { step = n; what = what.Pend irq } ∷ items_of n labels
items_of n (Ticked ∷ labels) = record { step = n; what = what.Tick } ∷ items_of n labels
items_of n (Rang ∷ labels) = record { step = n; what = what.Alarm } ∷ items_of n labels
items_of n (Stepped (Some w) ∷ labels) = record { step = n; what = w } ∷ items_of (suc n) labels
items_of n (Stepped None ∷ labels) = items_of (suc n) labels

-- how many of them are core steps
abbrev pub steps_of : List Label → ℕ
steps_of [] = zero
steps_of (Stepped w ∷ labels) = suc (steps_of labels)
steps_of (Arrived irq ∷ labels) = steps_of labels
steps_of (Ticked ∷ labels) = steps_of labels
steps_of (Rang ∷ labels) = steps_of labels

-- the item is another than a trap, which stops the core
abbrev pub IsNoTrap : What → Type 0
IsNoTrap (what.Trap number) = ⊥
IsNoTrap w = Unit {0}
