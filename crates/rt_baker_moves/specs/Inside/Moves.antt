-- What the moves of Baker's machine (Stack-Based Scheduling of Realtime Processes, 1991) change in what an auditor
-- keeps of its state. The definitions speak of the machine's own states.
use Rattle.std.specs.Prelude.{◌≡◌, ℕ, ◌-◌, [], ◌∷◌, ◌++◌, map}
use Rattle.rt_app.specs.Tree.{App}
use Rattle.rt_laws.specs.State as laws
use Rattle.rt_laws.specs.State.{reached_values}
use Rattle.rt_laws.specs.Acting.{idle_job}
use Rattle.rt_laws.specs.Allowed.{state_after_item}
use Rattle.rt_baker_work.specs.declared.todo.Todo.{Todo}
use Rattle.rt_baker_work.specs.Store.{Store, contents}
use Rattle.rt_baker_moves.specs.Job.{AuditorJob, JobIs}
use Rattle.rt_baker_moves.specs.State.{AuditorState, StateIs}
use Rattle.rt_baker_moves.specs.Inside.Acts.{held_with_job, with_work}

-- so many core steps of a job, and of each of its open sections, are spent
abbrev pub kept_after_steps : ℕ → AuditorJob → AuditorJob
kept_after_steps k j = record j { left = j.left - k; lefts = map (λ n. n - k) j.lefts }

-- a job that has this thing to do before all else
abbrev pub with_next : Todo → AuditorJob → AuditorJob
with_next t j = with_work j (record { todos = j.work.todos ++ t ∷ []; vars = j.work.vars })

-- Whatever state of the machine the old one may be, its running job has done its next action in the new one.
abbrev pub Advances : App → AuditorState → AuditorState → Type 0
Advances app old new = (t : laws.State) → StateIs app old t → StateIs app new (state_after_item app t t.jobs)

-- A job began as this one, and made the contents on its way to its first action.
pub record IsBegun (app : App) (k : laws.Job) (was : Store) (new : AuditorJob) (is : Store) : Type 0 where
  pub job : JobIs app new k
  pub values : reached_values k.rest (contents was) ≡ contents is

-- The thread began `idle`, or waits where `idle` is not declared.
pub record IsIdling (app : App) (old new : AuditorState) : Type 0 where
  pub job : AuditorJob
  pub store : Store
  pub begins : IsBegun app (idle_job app (contents old.store) app.idle) old.store job store
  pub is : new ≡ held_with_job old job store
