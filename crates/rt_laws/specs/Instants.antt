-- Messages of one instant fire in the order in which they were last armed or moved: an arming and a move put their
-- message last in the timer queue, and of the messages of the least instant the first in the queue fires. That the
-- order is that of the last arming is this project's own.
use Rattle.std.specs.Prelude.{◌≡◌, ℕ, suc, ◌<◌, ◌≤◌, List, [], ◌∷◌, ◌++◌, Some}
use Rattle.std.specs.List.{AllByRecursion}
use Rattle.rt_actions.specs.Location.{Guarded}
use Rattle.rt_actions.specs.Content.{Message, Armed, Timed, timer_content, delays, least, message_of_handle}
use Rattle.rt_actions.specs.Content.{without_handle}
use Rattle.rt_ids.specs.declared.ids.Section.TheVariants as section
use Rattle.rt_trace.specs.Label.{Label, Stepped}
use Rattle.rt_trace.specs.declared.item.What.TheVariants as what
use Rattle.rt_app.specs.Tree.{App}
use Rattle.rt_app.specs.Accepted.{IsAccepted}
use Rattle.rt_laws.specs.State.{State, first}
use Rattle.rt_laws.specs.Allowed.{May, after}
use Rattle.rt_laws.specs.Run.{RunsOn}
use Rattle.rt_laws.specs.ByItems.{after_all}

-- the timer queue of a state
abbrev pub timer_queue : State → Timed
timer_queue s = timer_content (s.values (Guarded section.Timer))

-- the armed messages of a state, in order of their last arming
abbrev pub state_delays : State → List Armed
state_delays s = delays (s.values (Guarded section.Timer))

-- a message of the task is armed last of all, for this instant, with a new handle
pub record ArmsLast (before after : State) (task instant : ℕ) : Type 0 where
  pub message : Message
  pub of_task : message.task ≡ task
  pub given : (timer_queue after).given ≡ suc (timer_queue before).given
  pub last : state_delays after
      ≡ state_delays before
      ++ record { instant = instant; message = message; handle = suc (timer_queue before).given } ∷ []

-- the message of the task that has the handle waits last of all, for this instant; the others are as before
pub record MovesLast (before after : State) (task handle instant : ℕ) : Type 0 where
  pub moved : Armed
  pub was_armed : message_of_handle task handle (state_delays before) ≡ Some moved
  pub last : state_delays after ≡ without_handle task handle (state_delays before) ++ record moved { instant = instant }
      ∷ []

-- of the armed messages this one fires: those before it are of later instants, and none is of an earlier one
pub record FiresFirst (all : List Armed) (a : Armed) : Type 0 where
  pub before : List Armed
  pub behind : List Armed
  pub parts : all ≡ before ++ a ∷ behind
  pub later : AllByRecursion (λ b. a.instant < b.instant) before
  pub no_earlier : AllByRecursion (λ b. a.instant ≤ b.instant) behind

-- in a state each arming that is allowed next puts its message last
abbrev pub NextArmsLast : App → State → Type 0
NextArmsLast app s = (t i : ℕ) → May app s (Stepped (Some (what.Arm t i)))
    → ArmsLast s (after app s (Stepped (Some (what.Arm t i)))) t i

-- in a state each move that is allowed next puts its message last
abbrev pub NextMovesLast : App → State → Type 0
NextMovesLast app s = (t h i : ℕ) → May app s (Stepped (Some (what.Move t h i)))
    → MovesLast s (after app s (Stepped (Some (what.Move t h i)))) t h i

-- at every moment of a run of an accepted application armings and moves put their messages last; and of the armed
-- messages the one that fires is the first of the least instant
pub record EqualInstantsFireInOrder : Type 0 where
  pub arm : (app : App) → IsAccepted app → (labels : List Label) → RunsOn app (first app) labels
      → NextArmsLast app (after_all app (first app) labels)
  pub move : (app : App) → IsAccepted app → (labels : List Label) → RunsOn app (first app) labels
      → NextMovesLast app (after_all app (first app) labels)
  pub fire : (all : List Armed) (a : Armed) → least all ≡ Some a → FiresFirst all a
