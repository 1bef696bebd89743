-- Which items a judge has judged. They come one after another from the start on; the state and the steps after them are
-- functions of them, so there is one of each at most. A run of Baker's machine (Stack-Based Scheduling of Realtime
-- Processes, 1991) is a list of labels; here it goes by items.
use Rattle.std.specs.Prelude.{◌≡◌, ℕ, suc, ◌-◌, ◌^◌, ◌<◌, List, [], ◌∷◌, length, take, Option, Some, None}
use Rattle.std.specs.Prelude.{if◌then◌else◌}
use Rattle.std.specs.List.{AllByRecursion}
use Rattle.rt_trace.specs.declared.item.Item.{Item}
use Rattle.rt_app.specs.Stack.{stack_bytes}
use Rattle.rt_app.specs.Tree.{App}
use Rattle.rt_laws.specs.State as laws
use Rattle.rt_laws.specs.Run.{IsWithinStack}
use Rattle.rt_laws.specs.ByItems.{label_of, steps_after, Comes, after_item}
use Rattle.rt_baker_moves.specs.State.{AuditorState, StateIs}
use Rattle.rt_baker.specs.declared.done.Done.{Done}
use Rattle.rt_baker.specs.declared.judge.Judge.{Judge}

-- the core steps that are done after the last item
abbrev pub steps_done : Done → ℕ
steps_done d = if d.is_step then suc d.step else d.step

module _ (app : App) where
  -- the state after items, from a state on in which n core steps are done
  abbrev pub state_after : laws.State → ℕ → List Item → laws.State
  state_after t n [] = t
  state_after t n (item ∷ items) =
      state_after (after_item app t n item) (steps_after item.step (label_of t.owing item.what)) items

  -- the core steps that are done after items, likewise
  abbrev pub steps_done_after : laws.State → ℕ → List Item → ℕ
  steps_done_after t n [] = n
  steps_done_after t n (item ∷ items) =
      steps_done_after (after_item app t n item) (steps_after item.step (label_of t.owing item.what)) items

  -- each of these items comes where those before it have led
  abbrev pub AllCome : laws.State → ℕ → List Item → Type 0
  AllCome t n [] = Unit {0}
  AllCome t n (item ∷ items) =
      Comes app t n item × AllCome (after_item app t n item) (steps_after item.step (label_of t.owing item.what)) items

  -- Items come from the start on, each within the stack bound.
  pub record AreRight (items : List Item) : Type 0 where
    pub come : AllCome (laws.first app) 0 items
    pub depths : AllByRecursion (λ item. IsWithinStack app item.what) items

  -- The items are right, and this is kept of the state after them, where so many steps are done.
  pub record Follows (items : List Item) (s : AuditorState) (done : ℕ) : Type 0 where
    pub right : AreRight items
    pub is : StateIs app s (state_after (laws.first app) 0 items)
    pub steps : done ≡ steps_done_after (laws.first app) 0 items

  -- The items before this index are right, and with the item there they are not.
  pub record FailsAt (items : List Item) (index : ℕ) : Type 0 where
    pub within : index < length items
    pub right : AreRight (take index items)
    pub wrong : AreRight (take (suc index) items) → ⊥

  -- No item is wrong, or the one at this index is the first that is.
  abbrev pub HasComeTo : List Item → AuditorState → Done → Option ℕ → Type 0
  HasComeTo items s done None = Follows items s (steps_done done)
  HasComeTo items s done (Some index) = FailsAt items index

  -- These items were judged. The judge keeps the state after them where all are right, and else which is the first that
  -- is wrong.
  pub record HasJudged (items : List Item) (judge : Judge) : Type 0 where
    pub counted : judge.items ≡ length items
    pub bounded : judge.stack ≡ stack_bytes app
    pub come_to : HasComeTo items judge.state judge.done judge.wrong

  -- Some items were judged, so few that there may be another.
  pub record MayTake (judge : Judge) : Type 0 where
    pub items : List Item
    pub judged : HasJudged items judge
    pub few : length items < 2 ^ 32 - 1
