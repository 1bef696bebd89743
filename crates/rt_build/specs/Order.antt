-- The order and the form of the code of an image (this project's own). `init` is first, `idle` next, and then come the
-- hardware tasks as they are declared; the bodies of software tasks, the dispatchers and the timer handler follow, in
-- an order that is free. Each part begins where the one before it ends, and has no more instructions than the rule on
-- sizes counts for it. Of a body the end is fixed, and where it emits literals and pends interrupts alone, each line.
use Rattle.std.specs.Prelude.{◌≡◌, ℕ, ◌+◌, ◌≤◌, Bool, not, List, [], ◌∷◌, ◌++◌, length, map, sum_by, IsPermutation}
use Rattle.std.specs.Prelude.{Option, Some, None, if◌then◌else◌}
use Rattle.rt_ids.specs.declared.ids.BodyId.{BodyId}
use Rattle.rt_ids.specs.declared.ids.BodyId.TheVariants as body
use Rattle.rt_app.specs.declared.app.Mono.{Mono}
use Rattle.rt_app.specs.Tree.{Body, Task, App}
use Rattle.rt_app.specs.Bodies.{members, body_at}
use Rattle.rt_app.specs.BodyCost.{size_measure, body_cost, cost_of, dispatcher_size, timer_size, shared_size}
use Rattle.rt_app.specs.Level.{is_software, levels}
use Rattle.rt_code.specs.declared.instr.Instr.TheVariants as instr
use Rattle.rt_gen_queue.specs.Line.{Line, plain}
use Rattle.rt_gen_body.specs.Form.{HasForm}
use Rattle.rt_build.specs.Entries.{Entries}

-- what code is made up of
pub data CodePart : Type 0 where
  -- the body of `init`, of `idle` or of a task
  OfBody : BodyId → CodePart
  -- the dispatcher of a level
  OfLevel : ℕ → CodePart
  -- the timer handler
  OfTimer : CodePart

-- the address where a part of the code begins
abbrev pub begin_of : Entries → CodePart → ℕ
begin_of at (OfBody body.Init) = 0
begin_of at (OfBody body.Idle) = at.idle
begin_of at (OfBody (body.Task n)) = at.task n
begin_of at (OfLevel p) = at.dispatcher p
begin_of at OfTimer = at.timer

-- how many instructions a part of the code may have
abbrev pub size_of : App → CodePart → ℕ
size_of app (OfBody id) = cost_of (size_measure app) (body_at app id)
size_of app (OfLevel p) = dispatcher_size app p
size_of app OfTimer = timer_size app app.mono

-- the lines of `idle`; where it is not declared, one line at which the thread waits for interrupts
abbrev pub IsIdleFormed : App → Option Body → ℕ → List Line → Type 0
IsIdleFormed app None entry lines = lines ≡ plain instr.Wait ∷ []
IsIdleFormed app (Some b) entry lines = HasForm app body.Idle entry lines

-- the lines of a part from an address on, as far as they are fixed: those of a dispatcher and of the timer handler are
-- not
abbrev pub IsFormed : App → CodePart → ℕ → List Line → Type 0
IsFormed app (OfBody body.Init) entry lines = HasForm app body.Init entry lines
IsFormed app (OfBody body.Idle) entry lines = IsIdleFormed app app.idle entry lines
IsFormed app (OfBody (body.Task n)) entry lines = HasForm app (body.Task n) entry lines
IsFormed app (OfLevel p) entry lines = Unit {0}
IsFormed app OfTimer entry lines = Unit {0}

-- the bodies of the tasks that pass, in order; the first of the tasks has this number
abbrev pub task_parts : (Task → Bool) → ℕ → List Task → List CodePart
task_parts test n [] = []
task_parts test n (t ∷ more) = (if test t then OfBody (body.Task n) ∷ [] else []) ++ task_parts test (n + 1) more

-- the timer handler, where there is a monotonic
abbrev pub timer_parts : Option Mono → List CodePart
timer_parts None = []
timer_parts (Some mono) = OfTimer ∷ []

-- the parts whose order is fixed
abbrev pub fixed_parts : App → List CodePart
fixed_parts app = OfBody body.Init ∷ OfBody body.Idle ∷ task_parts (λ t. not (is_software t)) 0 app.tasks

-- the parts after those whose order is fixed
abbrev pub free_parts : App → List CodePart
free_parts app = task_parts is_software 0 app.tasks ++ (map OfLevel (levels app) ++ timer_parts app.mono)

-- These parts, one after the other, are all of these lines, from an address on, where this is so of each part with its
-- lines.
abbrev pub AreAbutting : (CodePart → ℕ → List Line → Type 0) → ℕ → List CodePart → List Line → Type 0
AreAbutting IsThere from [] lines = lines ≡ []
AreAbutting IsThere from (part ∷ parts) lines =
    (own more : List Line) × (lines ≡ own ++ more) × IsThere part from own
    × AreAbutting IsThere (from + length own) parts more

module _ (app : App) (at : Entries) where
  -- a part is these lines, from an address on
  pub record IsPart (part : CodePart) (from : ℕ) (lines : List Line) : Type 0 where
    pub begins : begin_of at part ≡ from
    pub short : length lines ≤ size_of app part
    pub formed : IsFormed app part from lines

  -- the parts of the application are all of its code, first those whose order is fixed, and then the others in some
  -- order
  pub record IsInOrder (code : List Line) : Type 0 where
    pub behind : List CodePart
    pub free : IsPermutation behind (free_parts app)
    pub abut : AreAbutting IsPart 0 (fixed_parts app ++ behind) code

-- how many instructions all code may have, as the rule on sizes counts them
abbrev pub code_size : App → ℕ
code_size app = shared_size app + sum_by (λ m. body_cost (size_measure app) m.body) (members app)
