-- The bodies that an application declares, each with the priority that it runs at.
use Rattle.std.specs.Prelude.{ℕ, ◌+◌, List, [], ◌∷◌, ◌++◌, slice_get, Option, Some, None, option_map}
use Rattle.rt_ids.specs.Lists.{or_zero}
use Rattle.rt_ids.specs.declared.ids.BodyId.{BodyId}
use Rattle.rt_ids.specs.declared.ids.BodyId.TheVariants as body
use Rattle.rt_app.specs.Tree.{Body, Task, App}

-- a body as the application has it
pub record Member : Type 0 where
  pub id : BodyId
  pub priority : ℕ
  -- how many arguments it takes
  pub args : ℕ
  pub body : Body

-- `init` or `idle`, where it is declared, with the priority 0
abbrev pub thread_members : BodyId → Option Body → List Member
thread_members id None = []
thread_members id (Some b) = record { id = id; priority = 0; args = 0; body = b } ∷ []

-- the bodies of tasks, the first of which has this number
abbrev pub task_members : ℕ → List Task → List Member
task_members n [] = []
task_members n (t ∷ ts) =
    record { id = body.Task n; priority = t.priority; args = t.args; body = t.body } ∷ task_members (n + 1) ts

-- `init`, `idle` and the tasks, where they are declared
abbrev pub members : App → List Member
members app = thread_members body.Init app.init ++ (thread_members body.Idle app.idle ++ task_members 0 app.tasks)

-- a body, where it is declared
abbrev pub body_at : App → BodyId → Option Body
body_at app body.Init = app.init
body_at app body.Idle = app.idle
body_at app (body.Task n) = option_map (λ t. t.body) (slice_get app.tasks n)

-- a body as a member, where it is declared
abbrev pub member_at : App → BodyId → Option Member
member_at app body.Init = option_map (λ b. record { id = body.Init; priority = 0; args = 0; body = b }) app.init
member_at app body.Idle = option_map (λ b. record { id = body.Idle; priority = 0; args = 0; body = b }) app.idle
member_at app (body.Task n) =
    option_map (λ t. record { id = body.Task n; priority = t.priority; args = t.args; body = t.body })
    (slice_get app.tasks n)

-- the priority of a task, which of a software task is its level; 0 where there is none
abbrev pub task_priority : App → ℕ → ℕ
task_priority app n = or_zero (option_map (λ t. t.priority) (slice_get app.tasks n))
