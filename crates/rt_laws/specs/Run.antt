-- Runs of Baker's machine, and the traces that are runs of it. Step numbers are apart from what happens: the items of
-- labels are numbered by the core steps before each (`items_of`), so a trace says how many silent steps come before
-- each item.
use Rattle.std.specs.Prelude.{◌≡◌, ℕ, ◌≤◌, List, [], ◌∷◌, Option, Some, None}
use Rattle.std.specs.List.{AllByRecursion}
use Rattle.rt_trace.specs.Label.{Label, items_of, steps_of}
use Rattle.rt_trace.specs.Trace.{Trace}
use Rattle.rt_trace.specs.declared.item.Item.{Item}
use Rattle.rt_trace.specs.declared.item.What.{What}
use Rattle.rt_trace.specs.declared.item.What.TheVariants as what
use Rattle.rt_app.specs.Tree.{App}
use Rattle.rt_app.specs.Stack.{stack_bytes}
use Rattle.rt_laws.specs.State.{State, first}
use Rattle.rt_laws.specs.Allowed.{May, after}

-- a run from a state on: each of these labels is allowed after those before it
abbrev pub RunsOn : App → State → List Label → Type 0
RunsOn app s [] = Unit {0}
RunsOn app s (label ∷ labels) = May app s label × RunsOn app (after app s label) labels

-- The items are a run of Baker's machine on the application, with so many core steps in all. (`RunsByItems` says the
-- same item by item.)
pub record Run (app : App) (items : List Item) (total : ℕ) : Type 0 where
  pub labels : List Label
  pub shows : items_of 0 labels ≡ items
  pub steps : steps_of labels ≡ total
  pub allowed : RunsOn app (first app) labels

-- the depth that a take states is within the stack bound; whether it is the true one is not judged
abbrev pub IsWithinStack : App → What → Type 0
IsWithinStack app (what.Take irq depth) = depth ≤ stack_bytes app
IsWithinStack app w = Unit {0}

-- the trace states the total of core steps that there are, or it states none and may end with its last item
abbrev pub StatesTotal : Option ℕ → ℕ → Type 0
StatesTotal None total = Unit {0}
StatesTotal (Some stated) total = stated ≡ total

-- a trace is judged right: it is a run, of as many steps as it states, and within the stack bound
pub record Judged (app : App) (trace : Trace) : Type 0 where
  pub total : ℕ
  pub stated : StatesTotal trace.total total
  pub run : Run app trace.items total
  pub depths : AllByRecursion (λ item. IsWithinStack app item.what) trace.items
