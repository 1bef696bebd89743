-- Messages that start and end in time. Messages of a level start in the order in which they became ready, one in a turn
-- of the dispatcher (the RTIC 1 book, software tasks); so where n of them are ready, the start of the last of these is
-- the n-th of the level from there on. The end of its task's body is the first of that task behind it, since a
-- dispatcher is not taken again while it runs.
use Rattle.std.specs.Prelude.{◌≡◌, ℕ, suc, ◌+◌, ◌≤◌, true, count_by, List, [], ◌∷◌, ◌++◌, Contains, Some}
use Rattle.rt_ids.specs.Choice.{IsIn}
use Rattle.rt_ids.specs.declared.ids.BodyId.TheVariants as body
use Rattle.rt_trace.specs.Label.{Label, Stepped, steps_of}
use Rattle.rt_trace.specs.declared.item.What.TheVariants as what
use Rattle.rt_app.specs.Tree.{App}
use Rattle.rt_app.specs.Bodies.{task_priority}
use Rattle.rt_laws.specs.MessagesWaiting.{is_start_at, ready_after}
use Rattle.rt_rta.specs.Kept.{end_of_init, InitEnds}
use Rattle.rt_respond.specs.Handlers.{handlers}
use Rattle.rt_respond.specs.Limits.{Limits}
use Rattle.rt_respond.specs.Response.{IsResponse}
use Rattle.rt_respond.specs.declared.handler.Handler.{Handler}
use Rattle.rt_respond.specs.declared.response.Response.TheVariants as response

-- the step in which a message of a task becomes ready
abbrev pub ready_of : ℕ → Label
ready_of task = Stepped (Some (what.Ready task))

-- the step in which the body of a task ends
abbrev pub end_of : ℕ → Label
end_of task = Stepped (Some (what.End (body.Task task)))

-- the n-th start of the level of a task is one of that task, and it and the end of the body behind it come within so
-- many core steps of these labels
pub record RunIn (app : App) (task n steps : ℕ) (labels : List Label) : Type 0 where
  pub waiting : List Label
  pub args : List ℕ
  pub running : List Label
  pub behind : List Label
  pub parts : labels ≡ waiting ++ Stepped (Some (what.Start task args)) ∷ (running ++ end_of task ∷ behind)
  pub turn : suc (count_by (is_start_at app (task_priority app task)) waiting) ≡ n
  pub first_end : ¬ Contains running (end_of task)
  pub in_time : steps_of waiting + 1 + steps_of running + 1 ≤ steps

-- the dispatcher of a task, as it runs the task's messages
pub record Dispatches (app : App) (task : ℕ) (h : Handler) : Type 0 where
  pub declared : IsIn (handlers app) h
  pub runs : h.task ≡ task
  pub is_dispatcher : h.is_dispatcher ≡ true

module _ (app : App) (limits : Limits) where
  -- within these labels the n-th message of a task's level is started and done in the response time of its dispatcher,
  -- where they go on so long
  abbrev pub IsRunWithin : ℕ → ℕ → List Label → Type 0
  IsRunWithin task n behind =
      (h : Handler) (steps : ℕ) → Dispatches app task h → IsResponse app limits.every h (response.Steps steps)
      → steps ≤ steps_of behind → RunIn app task n steps behind

  -- the last of the messages that are ready behind the first labels is
  abbrev pub LastIsRun : ℕ → List Label → List Label → Type 0
  LastIsRun task front behind = IsRunWithin task (ready_after app (task_priority app task) front) behind

  pub record RunsEach (labels : List Label) : Type 0 where
    -- each message that becomes ready behind the end of `init`
    pub readied : (front behind : List Label) (task : ℕ) → labels ≡ (front ++ ready_of task ∷ []) ++ behind
        → Contains front end_of_init → LastIsRun task (front ++ ready_of task ∷ []) behind
    -- each that became ready during `init`, from its end on: no message starts in it
    pub readied_during : (front rest during behind : List Label) (task : ℕ) → InitEnds labels during behind
        → during ≡ (front ++ ready_of task ∷ []) ++ rest
        → IsRunWithin task (ready_after app (task_priority app task) (front ++ ready_of task ∷ [])) behind
