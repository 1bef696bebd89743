-- What whole bodies and handlers have to do (the RTIC 1 book: `init`, `idle`, hardware tasks, software tasks and their
-- dispatchers, the monotonic). That a dispatcher starts one message an entry, and that the timer handler makes one
-- message ready an entry, is this project's own.
use Rattle.std.specs.Prelude.{ℕ, nat_le, List, [], ◌∷◌, ◌++◌, replicate, slice_get, Option, Some, None, if◌then◌else◌}
use Rattle.rt_ids.specs.Lists.{is_empty, then_from}
use Rattle.rt_actions.specs.Location.{Guarded}
use Rattle.rt_actions.specs.Content.{Message, Armed, messages, delays, least}
use Rattle.rt_actions.specs.Action.{Enters, Leaves, Posts, Clocks, Starts, Frees, Fires, SetsAlarm, Ends, Returns}
use Rattle.rt_actions.specs.Doing.{over, does}
use Rattle.rt_ids.specs.declared.ids.BodyId.TheVariants as body
use Rattle.rt_ids.specs.declared.ids.Section.TheVariants as section
use Rattle.rt_app.specs.declared.costs.TheConstants.{FREE_COST}
use Rattle.rt_app.specs.Tree.{Body, App}
use Rattle.rt_app.specs.Variables.{variables}
use Rattle.rt_app.specs.Bodies.{task_priority}
use Rattle.rt_app.specs.BodyCost.{dispatcher_section_cost, timer_section_cost}
use Rattle.rt_app.specs.Handlers.{Handler, Runs, Dispatches, Times}
use Rattle.rt_app.specs.Sending.{Rest, act, act_all, dispatcher_number, ready_actions}
use Rattle.rt_app.specs.Meaning.{run_block}

-- nothing is left to do
abbrev pub nothing : Rest
nothing vs = over

module _ (app : App) where
  -- a body with these arguments, and what is left to do after it; its variables begin as 0
  abbrev pub body_doing : Body → List ℕ → Rest → Rest
  body_doing b args rest = run_block app b.block (λ vars. rest) (args ++ replicate (variables b.block) 0)

  -- a body, or nothing where it is not declared
  abbrev pub declared_doing : Option Body → List ℕ → Rest → Rest
  declared_doing None args rest = rest
  declared_doing (Some b) args rest = body_doing b args rest

  -- `init`, whose end is its last action
  abbrev pub init_doing : Rest
  init_doing = declared_doing app.init [] (act (Ends body.Init) nothing)

  -- one run of `idle`; its body is run again and again
  abbrev pub idle_doing : Rest
  idle_doing = declared_doing app.idle [] (act (Ends body.Idle) nothing)

  -- the body of a task, and what is left to do after it
  abbrev pub task_doing : ℕ → List ℕ → Rest → Rest
  task_doing n args rest = declared_doing (then_from (slice_get app.tasks n) (λ t. Some t.body)) args rest

  -- The oldest ready message of a level starts: its place is free before its task's body runs, and the dispatcher is
  -- pended again where more are ready.
  abbrev pub start_doing : ℕ → List Message → Rest
  start_doing p [] = act_all (Leaves (section.Ready p) ∷ Returns ∷ []) nothing
  start_doing p (m ∷ more) =
      act_all
      (Starts p m ∷ (if is_empty more then [] else Posts (dispatcher_number app p) ∷ [])
      ++ Leaves (section.Ready p) ∷ Enters (section.Free m.task) FREE_COST ∷ Frees m.task ∷ Leaves (section.Free m.task)
      ∷ [])
      (task_doing m.task m.args (act_all (Ends (body.Task m.task) ∷ Returns ∷ []) nothing))

  -- The dispatcher of a level: inside the section of its ready messages it starts the oldest, where there is one.
  abbrev pub dispatcher_doing : ℕ → Rest
  dispatcher_doing p =
      act (Enters (section.Ready p) (dispatcher_section_cost app p))
      (λ vs. start_doing p (messages (vs (Guarded (section.Ready p)))) vs)

  -- the least armed message, where its instant is not later than the time
  abbrev pub due : ℕ → List Armed → Option Armed
  due time armed = then_from (least armed) (λ a. if nat_le a.instant time then Some a else None)

  -- the timer handler makes a due message ready
  abbrev pub fire_doing : Option Armed → Rest
  fire_doing None = act_all (SetsAlarm ∷ Leaves section.Timer ∷ Returns ∷ []) nothing
  fire_doing (Some a) =
      act_all (Fires a.message ∷ SetsAlarm ∷ Leaves section.Timer
      ∷ ready_actions app (task_priority app a.message.task) a.message ++ Returns ∷ []) nothing

  -- The timer handler, with a section of this cost: by the clock it makes the least armed message ready, where it is
  -- due.
  abbrev pub timer_doing_in : ℕ → Rest
  timer_doing_in cost =
      act (Enters section.Timer cost)
      (λ vs. does Clocks vs (λ time vs. fire_doing (due time (delays (vs (Guarded section.Timer)))) vs))

  -- the timer handler, with a section of the cost that is counted for it
  abbrev pub timer_doing : Rest
  timer_doing = timer_doing_in (timer_section_cost app)

  -- what serves an interrupt
  abbrev pub handler_doing : Handler → Rest
  handler_doing (Runs n) = task_doing n [] (act Returns nothing)
  handler_doing (Dispatches p) = dispatcher_doing p
  handler_doing Times = timer_doing
