-- What counts of core steps, of jobs and of places, where core steps are counted, or messages of a task: of core steps
-- each is one, and a place is nothing; of messages core steps are nothing, and a message counts where its place is
-- taken.
use Rattle.std.proofs.Common.{◌≡◌, ℕ, ◌+◌, ◌-◌, ◌≤◌, ◌<◌, ◌==◌, ◌&&◌, Bool, true, false, if◌then◌else◌, slice_get, Some}
use Rattle.std.proofs.Common.{refl, arith}
use Rattle.rt_ids.specs.Choice.{IsIn}
use Rattle.rt_ids.specs.declared.ids.Section.TheVariants as section
use Rattle.rt_app.specs.Tree.{Body, Task, App}
use Rattle.rt_app.specs.Bodies.{task_priority}
use Rattle.rt_app.specs.BodyCost.{dispatcher_cost}
use Rattle.rt_app.specs.Ceiling.{ceiling}
use Rattle.rt_respond.specs.Blocking.{others_in_transit}
use Rattle.rt_respond.specs.Handlers.{handlers, is_at}
use Rattle.rt_respond.specs.Pends.{block_spawns}
use Rattle.rt_respond.specs.Work.{weight, steps_weight, release_work}
use Rattle.rt_respond.specs.declared.handler.Quantity.{Quantity}
use Rattle.rt_respond.specs.declared.handler.Quantity.TheVariants as counted
use Rattle.rt_respond.specs.declared.handler.Handler.{Handler}
use Rattle.rt_respond.specs.declared.handler.Release.TheVariants as released_by
use Rattle.rt_respond.specs.declared.number.TheConstants.{MOST_WORK}

-- what counts of a turn of a level's dispatcher, with the step that takes it
abbrev pub turn_weight : App → Quantity → ℕ → ℕ
turn_weight app counted.Steps q = dispatcher_cost app q + 1
turn_weight app (counted.Messages task) q = 0

-- what counts of a place of a task that is taken
abbrev pub placed : Quantity → ℕ → ℕ
placed counted.Steps n = 0
placed (counted.Messages task) n = if n == task then 1 else 0

-- a core step less counts so much less
pub weigh : (what : Quantity) (n : ℕ) → 0 < n → steps_weight what (n - 1) + steps_weight what 1 ≡ steps_weight what n
weigh counted.Steps n some = omega (arith, some)
weigh (counted.Messages task) n some = refl

-- a turn is its core steps, and the step that takes it
pub turn_parts : (app : App) (what : Quantity) (q : ℕ)
    → turn_weight app what q ≡ steps_weight what (dispatcher_cost app q) + steps_weight what 1
turn_parts app counted.Steps q = refl
turn_parts app (counted.Messages task) q = refl

-- one where this is so
abbrev one_where : Bool → ℕ
one_where b = if b then 1 else 0

both_hold : (a b : Bool) → a ≡ true → one_where (a && b) ≡ 0 + one_where b
both_hold true b is = omega arith
both_hold false b is = cc

none_holds : (a b : Bool) → a ≡ false → one_where (a && b) ≡ 0
none_holds true b is = cc
none_holds false b is = refl

-- a job of a dispatcher is a turn, and its message's place
pub dispatched_weight : (app : App) (what : Quantity) (q : ℕ) (h : Handler) → h.is_dispatcher ≡ true
    → h.steps ≡ dispatcher_cost app q → weight what h ≡ turn_weight app what q + placed what h.task
dispatched_weight app counted.Steps q h is cost = omega (arith, cost)
dispatched_weight app (counted.Messages task) q h is cost = both_hold h.is_dispatcher (h.task == task) is

-- a job of a hardware task is its core steps, and the step that takes it
pub wired_weight : (what : Quantity) (h : Handler) → h.is_dispatcher ≡ false
    → weight what h ≡ steps_weight what h.steps + steps_weight what 1
wired_weight counted.Steps h is = refl
wired_weight (counted.Messages task) h is = none_holds h.is_dispatcher (h.task == task) is

-- a section's steps, or its place, fit where both do
pub place_fits : (what : Quantity) (n steps more most : ℕ) → steps_weight what steps + more ≤ most
    → placed what n ≤ most → steps_weight what steps + placed what n ≤ most
place_fits counted.Steps n steps more most first second = omega (arith, first)
place_fits (counted.Messages task) n steps more most first second = omega (arith, second)

-- what a body of a priority below a handler holds off at most: all but the places in transit at other priorities
abbrev pub room_at : App → Quantity → Handler → ℕ → ℕ → ℕ
room_at app what i hold priority = hold - others_in_transit app what i priority

-- What is counted as blocking is a number that did not stop, and a place counts where its messages do: it is part of
-- what a message asks for, its section holds the handler off, and there is room for one at each body that takes it.
pub record Weighs (app : App) (what : Quantity) (i : Handler) (hold : ℕ) : Type 0 where
  pub below : hold < MOST_WORK
  pub places : (n k : ℕ) → release_work app what i (released_by.Message n) ≡ Some k → placed what n ≤ k
  pub quiet : (n : ℕ) → task_priority app n < i.priority → placed what n ≡ 0
  pub behind : (h : Handler) → IsIn (handlers app) h → is_at i h ≡ false → placed what h.task ≡ 0
  pub low : (n : ℕ) → ceiling app (section.Free n) < i.priority → placed what n ≡ 0
  pub others_within : (priority : ℕ) → others_in_transit app what i priority ≤ hold
  pub idle_room : (b : Body) → app.idle ≡ Some b → (n : ℕ) → block_spawns n b.block ≡ true
      → placed what n ≤ room_at app what i hold 0
  pub task_room : (k : ℕ) (t : Task) → slice_get app.tasks k ≡ Some t → t.priority < i.priority → (n : ℕ)
      → block_spawns n t.body.block ≡ true → placed what n ≤ room_at app what i hold t.priority

-- of core steps none does
pub steps_weigh : (app : App) (i : Handler) (hold : ℕ) → hold < MOST_WORK → Weighs app counted.Steps i hold
steps_weigh app i hold below = record {
  below = below;
  places = λ n k is. omega arith;
  quiet = λ n under. refl;
  behind = λ h there off. refl;
  low = λ n under. refl;
  others_within = λ priority. omega arith;
  idle_room = λ b there n spawns. omega arith;
  task_room = λ k t at lower n spawns. omega arith;
}

-- each core step counts, each turn and each job
pub record IsTimed (app : App) (what : Quantity) : Type 0 where
  pub steps : (n : ℕ) → 0 < n → 0 < steps_weight what n
  pub turns : (q : ℕ) → 0 < turn_weight app what q
  pub jobs : (h : Handler) → 0 < weight what h

pub steps_timed : (app : App) → IsTimed app counted.Steps
steps_timed app = record { steps = λ n some. some; turns = λ q. omega arith; jobs = λ h. omega arith }
