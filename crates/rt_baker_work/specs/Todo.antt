-- What a thing on an auditor's list of things to do comes to: the actions that it means, and then those of what is left
-- after it. The definitions run a body on its tree, with what is left as a function (`rt_app`; the RTIC 1 book,
-- resources, software tasks and the monotonic).
use Rattle.std.specs.Prelude.{ℕ, ◌-◌, List, [], ◌∷◌, ◌++◌, replicate, slice_get, slice_set, Option, Some}
use Rattle.std.specs.Prelude.{None, if◌then◌else◌}
use Rattle.rt_ids.specs.Lists.{is_empty, then_from}
use Rattle.rt_actions.specs.Location.{Guarded}
use Rattle.rt_actions.specs.Content.{Message, Armed, messages, timer_content, delays}
use Rattle.rt_actions.specs.Action.{Enters, Leaves, Posts, Clocks, Places, FindsFull, Starts, Frees, Arms, Fires}
use Rattle.rt_actions.specs.Action.{Cancels, Moves, SetsAlarm, Ends}
use Rattle.rt_actions.specs.Doing.{does}
use Rattle.rt_ids.specs.declared.ids.BodyId.TheVariants as body
use Rattle.rt_ids.specs.declared.ids.Section.TheVariants as section
use Rattle.rt_app.specs.declared.costs.TheConstants.{FREE_COST}
use Rattle.rt_app.specs.Tree.{Body, App}
use Rattle.rt_app.specs.View.{block_of}
use Rattle.rt_app.specs.Variables.{variables}
use Rattle.rt_app.specs.Bodies.{task_priority}
use Rattle.rt_app.specs.BodyCost.{timer_section_cost}
use Rattle.rt_app.specs.Sending.{Rest, act, act_all, has_place, dispatcher_number, ready_actions, instant_after}
use Rattle.rt_app.specs.Sending.{leave_timer, arm_actions, is_armed_as}
use Rattle.rt_app.specs.Meaning.{Later, turns_from, run_block}
use Rattle.rt_app.specs.Doings.{due}
use Rattle.rt_baker_work.specs.declared.todo.Todo.{Todo}
use Rattle.rt_baker_work.specs.declared.todo.Todo.TheVariants as todo
use Rattle.rt_baker_work.specs.declared.todo.Reading.{Reading}
use Rattle.rt_baker_work.specs.declared.todo.Reading.TheVariants as reading
use Rattle.rt_baker_work.specs.Actions.{action_of}

-- a variable, where there is one, gets this value
abbrev pub give_answer : Option ℕ → ℕ → Later → Later
give_answer None n later vars = later vars
give_answer (Some x) n later vars = later (slice_set vars x n)

-- a variable, where there is one, gets the handle that was given last
abbrev pub give_handle : Option ℕ → Later → Later
give_handle None later vars vs = later vars vs
give_handle (Some x) later vars vs = later (slice_set vars x (timer_content (vs (Guarded section.Timer))).given) vs

module _ (app : App) where
  -- A message that has a place goes to its queue, at once or after a delay. The rest goes by what the spawn gives.
  abbrev pub send_message : Option ℕ → Message → (ℕ → Rest) → Rest
  send_message None m rest = act_all (ready_actions app (task_priority app m.task) m) (rest 1)
  send_message (Some delay) m rest = arm_actions app (timer_section_cost app) delay m rest

  -- a place of the task is taken where one is left, inside its section
  abbrev pub place_message : Option ℕ → Option ℕ → Message → Later → Later
  place_message variable delay m later vars vs =
      if has_place app m.task vs
      then act_all (Places m.task ∷ Leaves (section.Free m.task) ∷ [])
      (send_message delay m (λ value. give_answer variable value later vars)) vs
      else act_all (FindsFull m.task ∷ Leaves (section.Free m.task) ∷ []) (give_answer variable 0 later vars) vs

  -- a body begins, where it is declared
  abbrev pub enter_body : Option Body → List ℕ → Later → Later
  enter_body None args later vars = later vars
  enter_body (Some b) args later vars = run_block app b.block later (args ++ replicate (variables b.block) 0)

  -- the body of a task, where there is such a task
  abbrev pub task_body : ℕ → Option Body
  task_body n = then_from (slice_get app.tasks n) (λ t. Some t.body)

  -- the oldest ready message of a level starts, where there is one
  abbrev pub start_message : ℕ → List Message → Later → Later
  start_message p [] later vars = act (Leaves (section.Ready p)) (later vars)
  start_message p (m ∷ more) later vars =
      act_all
      (Starts p m ∷ (if is_empty more then [] else Posts (dispatcher_number app p) ∷ [])
      ++ Leaves (section.Ready p) ∷ Enters (section.Free m.task) FREE_COST ∷ Frees m.task ∷ Leaves (section.Free
      m.task) ∷ [])
      (enter_body (task_body m.task) m.args (λ vars. act (Ends (body.Task m.task)) (later vars)) vars)

  -- a message that is due becomes ready
  abbrev pub fire_message : Option Armed → Rest → Rest
  fire_message None rest = act_all (SetsAlarm ∷ Leaves section.Timer ∷ []) rest
  fire_message (Some a) rest =
      act_all (Fires a.message ∷ SetsAlarm ∷ Leaves section.Timer ∷ ready_actions app (task_priority app
      a.message.task) a.message) rest

  -- what a reading of the clock is for: a variable, an arming, a move, or the timer handler
  abbrev pub use_clock : Reading → ℕ → Later → Later
  use_clock (reading.Bind x) time later vars vs = later (slice_set vars x time) vs
  use_clock (reading.Arm delay m) time later vars vs = act (Arms (instant_after app time delay) m) (later vars) vs
  use_clock (reading.Move delay n handle) time later vars vs =
      act (Moves n handle (instant_after app time delay)) (later vars) vs
  use_clock reading.Fire time later vars vs = fire_message (due app time (delays (vs (Guarded section.Timer))))
      (later vars) vs

  -- inside the section of the timer queue the armed message of the task that has the handle is cancelled, where there
  -- is one
  abbrev pub cancel_message : Option ℕ → ℕ → ℕ → Later → Later
  cancel_message variable n handle later vars vs =
      if is_armed_as app n handle vs
      then act (Cancels n handle) (leave_timer app
      (act_all (Enters (section.Free n) FREE_COST ∷ Frees n ∷ Leaves (section.Free n) ∷ [])
      (give_answer variable 0 later vars))) vs
      else act (Leaves section.Timer) (give_answer variable 1 later vars) vs

  -- inside the section of the timer queue the armed message of the task that has the handle is moved, where there is
  -- one
  abbrev pub move_message : Option ℕ → ℕ → ℕ → ℕ → Later → Later
  move_message variable delay n handle later vars vs =
      if is_armed_as app n handle vs
      then does Clocks vs (λ time. use_clock (reading.Move delay n handle) time
      (λ vars. leave_timer app (give_answer variable 0 later vars)) vars)
      else act (Leaves section.Timer) (give_answer variable 1 later vars) vs

  -- what a thing to do comes to, and after it what is left
  abbrev pub meaning : Todo → Later → Later
  meaning (todo.Run stmts) later vars vs = run_block app (block_of stmts.now) later vars vs
  meaning (todo.Turns x i last stmts) later vars vs = turns_from (last - i) x i (run_block app (block_of
      stmts.now)) later vars vs
  meaning (todo.Set x n) later vars vs = later (slice_set vars x n) vs
  meaning (todo.Place variable delay m) later vars vs = place_message variable delay m later vars vs
  meaning (todo.Dispatch p) later vars vs = start_message p (messages (vs (Guarded (section.Ready p)))) later vars vs
  meaning (todo.Begin m) later vars vs = enter_body (task_body m.task) m.args later vars vs
  meaning (todo.Due time) later vars vs = use_clock reading.Fire time later vars vs
  meaning (todo.Handle x) later vars vs = give_handle (Some x) later vars vs
  meaning (todo.Cancel variable n handle) later vars vs = cancel_message variable n handle later vars vs
  meaning (todo.Move variable delay n handle) later vars vs = move_message variable delay n handle later vars vs
  meaning (todo.Act a) later vars vs = act (action_of a) (later vars) vs
  meaning (todo.Clock r) later vars vs = does Clocks vs (λ time. use_clock r time later vars)

  -- things to do, the next one last
  unfoldable pub behind : List Todo → Later → Later
  behind [] later = later
  behind (t ∷ ts) later = behind ts (meaning t later)
