-- A run item by item, in the order of its trace: between two items pass as many silent steps as their numbers say. An
-- alarm that is owed is a tick's, any other a step's; so a trace has one list of states at most. It is what `Run` says,
-- item by item.
use Rattle.std.specs.Prelude.{ℕ, suc, ◌-◌, ◌≤◌, Bool, if◌then◌else◌, List, [], ◌∷◌, ◌++◌, replicate, Some, None}
use Rattle.rt_trace.specs.Label.{Label, Arrived, Ticked, Rang, Stepped}
use Rattle.rt_trace.specs.declared.item.Item.{Item}
use Rattle.rt_trace.specs.declared.item.What.{What}
use Rattle.rt_trace.specs.declared.item.What.TheVariants as what
use Rattle.rt_app.specs.Tree.{App}
use Rattle.rt_laws.specs.State.{State, first}
use Rattle.rt_laws.specs.Allowed.{May, after}
use Rattle.rt_laws.specs.Run.{RunsOn, Run}

-- what an item stands for, where an alarm is owed or not
abbrev pub label_of : Bool → What → Label
label_of owing (what.Pend irq) = Arrived irq
label_of owing what.Tick = Ticked
label_of owing what.Alarm = if owing then Rang else Stepped (Some what.Alarm)
label_of owing w = Stepped (Some w)

-- the core steps that are done after a label: one more where it is a step
abbrev pub steps_after : ℕ → Label → ℕ
steps_after n (Stepped shown) = suc n
steps_after n label = n

-- the state after these labels
abbrev pub after_all : App → State → List Label → State
after_all app s [] = s
after_all app s (label ∷ labels) = after_all app (after app s label) labels

-- so many silent steps
abbrev pub silent : ℕ → List Label
silent n = replicate n (Stepped None)

-- an item comes in a state in which n steps are done, after silent steps up to its number
pub record Comes (app : App) (s : State) (n : ℕ) (item : Item) : Type 0 where
  pub in_order : n ≤ item.step
  pub quiet : RunsOn app s (silent (item.step - n))
  pub allowed : May app (after_all app s (silent (item.step - n))) (label_of s.owing item.what)

-- the state after an item, with the silent steps before it
abbrev pub after_item : App → State → ℕ → Item → State
after_item app s n item = after app (after_all app s (silent (item.step - n))) (label_of s.owing item.what)

-- from a state in which n steps are done these items come, and in the end so many steps are done
abbrev pub RunsByItems : App → State → ℕ → List Item → ℕ → Type 0
RunsByItems app s n [] total = (n ≤ total) × RunsOn app s (silent (total - n))
RunsByItems app s n (item ∷ items) total =
    Comes app s n item × RunsByItems app (after_item app s n item)
    (steps_after item.step (label_of s.owing item.what)) items total

-- a run is one item by item, and the other way round
pub record RunsAreByItems : Type 0 where
  pub by_items : (app : App) (items : List Item) (total : ℕ) → Run app items total
      → RunsByItems app (first app) 0 items total
  pub of_items : (app : App) (items : List Item) (total : ℕ) → RunsByItems app (first app) 0 items total
      → Run app items total

-- the front of a run is a run, of some number of steps
abbrev pub FrontsAreRuns : Type 0
FrontsAreRuns =
    (app : App) (front behind : List Item) (total : ℕ) → Run app (front ++ behind) total → (k : ℕ) × Run app front k
