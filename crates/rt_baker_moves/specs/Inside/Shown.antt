-- The item of the running job's next action, from what an auditor keeps of a state. The definitions look at what is
-- left of the job as a function; here it is the last of the things that it has to do.
use Rattle.std.specs.Prelude.{List, [], ◌∷◌, Option, Some, None}
use Rattle.rt_ids.specs.declared.ids.BodyId.TheVariants as body
use Rattle.rt_trace.specs.declared.item.What.{What}
use Rattle.rt_trace.specs.declared.item.What.TheVariants as what
use Rattle.rt_laws.specs.State as laws
use Rattle.rt_laws.specs.Giving.{item_of}
use Rattle.rt_baker_work.specs.declared.action.Action.{Action}
use Rattle.rt_baker_work.specs.declared.todo.Todo.{Todo}
use Rattle.rt_baker_work.specs.declared.todo.Todo.TheVariants as todo
use Rattle.rt_baker_work.specs.Actions.{action_of}
use Rattle.rt_baker_work.specs.Work.{next_todo}
use Rattle.rt_baker_moves.specs.Job.{AuditorJob}
use Rattle.rt_baker_moves.specs.State.{AuditorState, with_jobs}

-- the item of an action of a job's work
unfoldable pub action_item : AuditorState → Action → Option What
action_item s a = item_of (with_jobs s []) laws.Waiting (action_of a)

-- the item of a job's end
abbrev pub end_item : laws.Role → Option What
end_item laws.Init = Some (what.End body.Init)
end_item laws.Idle = Some (what.End body.Idle)
end_item laws.Waiting = None
end_item (laws.Serving irq) = Some (what.Ret irq)

-- the item of the next thing to do, and of the end where there is none
abbrev pub todo_item : AuditorState → laws.Role → Option Todo → Option What
todo_item s r None = end_item r
todo_item s r (Some (todo.Act a)) = action_item s a
todo_item s r (Some (todo.Clock reading)) = Some (what.Clock s.time)
todo_item s r (Some t) = None

-- the item of the next action of a job
abbrev pub job_item : AuditorState → AuditorJob → Option What
job_item s j = todo_item s j.role (next_todo j.work.todos)

-- the item of the running job, which is the first
abbrev pub jobs_item : AuditorState → List AuditorJob → Option What
jobs_item s [] = None
jobs_item s (j ∷ js) = job_item s j

-- the item of the running job of a state
abbrev pub held_item : AuditorState → Option What
held_item s = jobs_item s s.jobs
