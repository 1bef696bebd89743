-- The script that goes deepest: handlers nest, one of each priority, the lowest first (Baker, Stack-Based Scheduling of
-- Realtime Processes, 1991, on sharing a stack). It is defined by which interrupts are requested and by what the core
-- does at each; the code runs a core as far as the first exception entry alone. The script is this project's own.
use Rattle.std.specs.Prelude.{◌≡◌, ℕ, suc, ◌<◌, List, [], ◌∷◌, ◌++◌, flat_map, replicate, Option}
use Rattle.rt_ids.specs.Event.{Arrive, Step}
use Rattle.rt_app.specs.Tree.{App}
use Rattle.rt_code.specs.Image.{Image}
use Rattle.rt_core.specs.Core.{reset}
use Rattle.rt_core.specs.Stepping.{step}
use Rattle.rt_core.specs.Trace.{core_after}
use Rattle.rt_script.specs.declared.line.Line.{Line}
use Rattle.rt_script.specs.declared.line.Line.TheVariants.{Steps, Pends}
use Rattle.rt_trace.specs.declared.item.What.{What}
use Rattle.rt_reach.specs.Take.{IsTake}
use Rattle.rt_reach.specs.Priorities.{deepest_irqs}

-- an interrupt is requested, and so many core steps follow
abbrev pub priority_lines : ℕ → ℕ → List Line
priority_lines steps irq = Pends irq 1 ∷ Steps steps ∷ []

-- the script of these interrupts in order: so many core steps behind the first, and one behind each other
abbrev pub script_of : ℕ → List ℕ → List Line
script_of steps [] = []
script_of steps (irq ∷ irqs) = priority_lines steps irq ++ flat_map (priority_lines 1) irqs

-- what the next core step shows where the interrupt is requested at reset and so many core steps are done
abbrev pub item_after : Image → ℕ → ℕ → Option What
item_after img irq done = (step img (core_after img (reset img) (Arrive irq ∷ replicate done Step))).1

-- where the interrupt is requested at reset, the core step of this number, from 1, is the first exception entry
pub record IsFirstTake (img : Image) (irq steps : ℕ) : Type 0 where
  pub done : ℕ
  pub number : steps ≡ suc done
  pub takes : IsTake (item_after img irq done)
  pub none : (k : ℕ) → k < done → ¬ IsTake (item_after img irq k)

-- so many core steps behind the first request, the last of them is the first exception entry
abbrev pub LeadsToTake : Image → ℕ → List ℕ → Type 0
LeadsToTake img steps [] = Unit {0}
LeadsToTake img steps (irq ∷ irqs) = IsFirstTake img irq steps

-- These lines are the script of the deepest tasks, for this image: the core steps up to the first exception entry, that
-- one included, are those of its code.
pub record IsDeepest (app : App) (img : Image) (lines : List Line) : Type 0 where
  pub steps : ℕ
  pub are : lines ≡ script_of steps (deepest_irqs app)
  pub first : LeadsToTake img steps (deepest_irqs app)
