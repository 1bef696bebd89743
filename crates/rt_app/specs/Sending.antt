-- The actions by which messages go to software tasks (the RTIC 1 book, software tasks and the monotonic): a spawn takes
-- a place of its task, where one is free, and puts the message into the ready queue of the task's level, or into the
-- timer queue. A message in the timer queue is cancelled, or moved to another instant, by its handle. That they are
-- these actions, in sections of these queues, is this project's own.
use Rattle.std.specs.Prelude.{ℕ, ◌+◌, min, nat_lt, Bool, List, [], ◌∷◌, map, slice_get, option_map, is_some}
use Rattle.std.specs.Prelude.{if◌then◌else◌}
use Rattle.rt_ids.specs.Lists.{or_zero, then_from}
use Rattle.rt_actions.specs.Location.{Guarded}
use Rattle.rt_actions.specs.Content.{Message, Values, number, timer_content, delays, message_of_handle}
use Rattle.rt_actions.specs.Action.{Action, Enters, Leaves, Posts, Clocks, Places, FindsFull, Readies, Frees, Arms}
use Rattle.rt_actions.specs.Action.{Cancels, Moves, SetsAlarm}
use Rattle.rt_actions.specs.Doing.{Doing, does}
use Rattle.rt_ids.specs.declared.limits.TheConstants.{LONGEST_DELAY}
use Rattle.rt_ids.specs.declared.ids.Section.TheVariants as section
use Rattle.rt_app.specs.declared.costs.TheConstants.{FREE_COST, READY_COST}
use Rattle.rt_app.specs.Tree.{Expression, Spawn, Soon, After, Cancel, Move, App}
use Rattle.rt_app.specs.Bodies.{task_priority}
use Rattle.rt_app.specs.BodyCost.{timer_section_cost, handle_section_cost}
use Rattle.rt_app.specs.Handlers.{dispatcher_of, irq_number}

-- what is left to do, by the values then
abbrev pub Rest : Type 0
Rest = Values → Doing Values

-- an action whose answer nobody uses, and the rest after it
abbrev pub act : Action → Rest → Rest
act action rest vs = does action vs (λ answer. rest)

-- actions in order, and the rest after them
abbrev pub act_all : List Action → Rest → Rest
act_all [] rest = rest
act_all (action ∷ actions) rest = act action (act_all actions rest)

module _ (app : App) where
  -- the places that a task has for its messages, and 0 where it is not declared
  abbrev pub capacity_of : ℕ → ℕ
  capacity_of n = or_zero (option_map (λ t. t.capacity) (slice_get app.tasks n))

  -- the number of the interrupt that serves a level of software tasks
  abbrev pub dispatcher_number : ℕ → ℕ
  dispatcher_number p = or_zero (then_from (dispatcher_of app p) (irq_number app))

  -- fewer places of the task are out than it has
  abbrev pub has_place : ℕ → Values → Bool
  has_place n vs = nat_lt (number (vs (Guarded (section.Free n)))) (capacity_of n)

  -- a place of a task is taken, and then the rest is the first; or there is none, and it is the second
  abbrev pub place_actions : ℕ → Rest → Rest → Rest
  place_actions n granted refused =
      act (Enters (section.Free n) FREE_COST)
      (λ vs. if has_place n vs then act_all (Places n ∷ Leaves (section.Free n) ∷ []) granted vs
      else act_all (FindsFull n ∷ Leaves (section.Free n) ∷ []) refused vs)

  -- a message becomes ready at a level, whose dispatcher is pended
  abbrev pub ready_actions : ℕ → Message → List Action
  ready_actions p m =
      Enters (section.Ready p) READY_COST ∷ Readies p m ∷ Posts (dispatcher_number p) ∷ Leaves (section.Ready p) ∷ []

  -- the instant so many ticks from a time
  abbrev pub instant_after : ℕ → ℕ → ℕ
  instant_after time delay = time + min delay LONGEST_DELAY

  -- the section of the timer queue closes, with the alarm set
  abbrev pub leave_timer : Rest → Rest
  leave_timer rest = act_all (SetsAlarm ∷ Leaves section.Timer ∷ []) rest

  -- A message is armed for an instant so many ticks from now, in a section of this cost. The rest goes by its handle,
  -- which is the number of messages armed by a spawn until then.
  abbrev pub arm_actions : ℕ → ℕ → Message → (ℕ → Rest) → Rest
  arm_actions cost delay m rest =
      act (Enters section.Timer cost)
      (λ vs. does Clocks vs
      (λ time. act (Arms (instant_after time delay) m)
      (λ vs. leave_timer (rest (timer_content (vs (Guarded section.Timer))).given) vs)))

  -- some armed message of the task has this handle
  abbrev pub is_armed_as : ℕ → ℕ → Values → Bool
  is_armed_as n handle vs = is_some (message_of_handle n handle (delays (vs (Guarded section.Timer))))

  -- In a section of this cost an armed message is cancelled, and its place is free again; the rest is then the first.
  -- Where no armed message of the task has the handle, it is the second.
  abbrev pub cancel_actions : ℕ → ℕ → ℕ → Rest → Rest → Rest
  cancel_actions cost n handle cancelled missing =
      act (Enters section.Timer cost)
      (λ vs. if is_armed_as n handle vs
      then act (Cancels n handle) (leave_timer
      (act_all (Enters (section.Free n) FREE_COST ∷ Frees n ∷ Leaves (section.Free n) ∷ []) cancelled)) vs
      else act (Leaves section.Timer) missing vs)

  -- In a section of this cost an armed message is moved to an instant so many ticks from now; the rest is then the
  -- first. Where no armed message of the task has the handle, it is the second.
  abbrev pub move_actions : ℕ → ℕ → ℕ → ℕ → Rest → Rest → Rest
  move_actions cost delay n handle moved missing =
      act (Enters section.Timer cost)
      (λ vs. if is_armed_as n handle vs
      then does Clocks vs (λ time. act (Moves n handle (instant_after time delay)) (leave_timer moved))
      else act (Leaves section.Timer) missing vs)

  -- A spawn, where its expressions have these values. The rest goes by what it gives: of a `spawn` 1 where it found a
  -- place, of a `spawn_after` the handle then, and 0 where it found none; of a `cancel` and a `reschedule_after` 0
  -- where an armed message of the task has the handle, else 1.
  abbrev pub spawn_actions : (Expression → ℕ) → Spawn → (ℕ → Rest) → Rest
  spawn_actions value (Soon n args at) rest =
      let message : Message = record { task = n; args = map value args } in
      place_actions n (act_all (ready_actions (task_priority app n) message) (rest 1)) (rest 0)
  spawn_actions value (After word delay n args at) rest =
      let message : Message = record { task = n; args = map value args } in
      place_actions n (arm_actions (timer_section_cost app) (value delay) message rest) (rest 0)
  spawn_actions value (Cancel word n handle at) rest =
      cancel_actions (handle_section_cost app) n (value handle) (rest 0) (rest 1)
  spawn_actions value (Move word delay n handle at) rest =
      move_actions (handle_section_cost app) (value delay) n (value handle) (rest 0) (rest 1)
