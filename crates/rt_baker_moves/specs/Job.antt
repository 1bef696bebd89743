-- What an auditor keeps of a job of Baker's machine (Stack-Based Scheduling of Realtime Processes, 1991), and the job
-- that it stands for. The machine has what is left to do as a function; here it is a list of things to do.
use Rattle.std.specs.Prelude.{◌≡◌, ℕ, List, []}
use Rattle.rt_actions.specs.Content.{Values}
use Rattle.rt_actions.specs.Action.{Ends, Returns}
use Rattle.rt_actions.specs.Doing.{Doing, over}
use Rattle.rt_ids.specs.declared.ids.BodyId.TheVariants as body
use Rattle.rt_ids.specs.declared.ids.Section.{Section}
use Rattle.rt_app.specs.Tree.{App}
use Rattle.rt_app.specs.Sending.{act}
use Rattle.rt_app.specs.Meaning.{Later}
use Rattle.rt_laws.specs.State as laws
use Rattle.rt_baker_work.specs.Todo.{behind}
use Rattle.rt_baker_work.specs.Work.{Work, IsSettled}
use Rattle.rt_baker_moves.specs.declared.job.Role.{Role}
use Rattle.rt_baker_moves.specs.declared.job.Role.TheVariants as role

-- the role that the code's role is
abbrev pub role_of : Role → laws.Role
role_of role.Init = laws.Init
role_of role.Idle = laws.Idle
role_of role.Waiting = laws.Waiting
role_of (role.Serving irq) = laws.Serving irq

-- what an auditor keeps of a job
pub record AuditorJob : Type 0 where
  pub role : laws.Role
  pub priority : ℕ
  pub work : Work
  pub left : ℕ
  pub sections : List Section
  pub lefts : List ℕ

-- the last action of a job, after all that it has to do
abbrev pub finish : laws.Role → Later
finish laws.Init vars = act (Ends body.Init) (λ vs. over)
finish laws.Idle vars = act (Ends body.Idle) (λ vs. over)
finish laws.Waiting vars = λ vs. over
finish (laws.Serving irq) vars = act Returns (λ vs. over)

module _ (app : App) where
  -- what it has left to do, from these values on
  abbrev pub rest_of : AuditorJob → Values → Doing Values
  rest_of j vs = behind app j.work.todos (finish j.role) j.work.vars vs

  -- the job that is kept, where this is left to do
  abbrev pub with_rest : AuditorJob → Doing Values → laws.Job
  with_rest j rest = record {
    role = j.role;
    priority = j.priority;
    rest = rest;
    left = j.left;
    sections =
        j.sections;
    lefts = j.lefts;
  }

  -- The job that is kept. It came to its action with some values, which others may have changed since.
  pub record JobIs (j : AuditorJob) (k : laws.Job) : Type 0 where
    pub values : Values
    pub is : k ≡ with_rest j (rest_of j values)
    pub settled : IsSettled j.work.todos
    pub waits : j.role ≡ laws.Waiting → j.work.todos ≡ []
