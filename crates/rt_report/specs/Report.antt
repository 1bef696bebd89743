-- What `check` prints: a line for each ceiling, frame, cost, waiting bound, and the stack bound. Ceilings are
-- priorities, frames are in words, costs and waiting bounds in core steps, the stack bound is in bytes.
use Rattle.std.specs.Prelude.{ℕ, List, [], ◌∷◌, ◌++◌, codes, decimal, flat_map, slice_get, Option, Some, None}
use Rattle.rt_ids.specs.declared.ids.BodyId.{BodyId}
use Rattle.rt_ids.specs.declared.ids.BodyId.TheVariants as body
use Rattle.rt_app.specs.declared.app.Shared.{Shared}
use Rattle.rt_app.specs.declared.bounds.BodyBound.{BodyBound}
use Rattle.rt_app.specs.declared.bounds.Wait.{Wait}
use Rattle.rt_app.specs.declared.ceilings.ReadyCeiling.{ReadyCeiling}
use Rattle.rt_app.specs.Tree.{Task, App}
use Rattle.rt_app.specs.Ceiling.{Ceilings}
use Rattle.rt_app.specs.Bounds.{Bounds}

-- a word, a name and a number
unfoldable pub line : List ℕ → List ℕ → ℕ → List ℕ
line word name n = word ++ codes " " ++ name ++ codes " " ++ decimal n ++ codes "\n"

-- the lines of resources and their ceilings, as far as both go
abbrev pub shared_lines : List Shared → List ℕ → List ℕ
shared_lines [] cs = []
shared_lines (r ∷ rs) [] = []
shared_lines (r ∷ rs) (c ∷ cs) = line (codes "ceiling") r.name c ++ shared_lines rs cs

-- the ceiling of a task's free places, where it has one
abbrev pub free_line : Task → Option ℕ → List ℕ
free_line t None = []
free_line t (Some c) = line (codes "ceiling") (codes "free." ++ t.name) c

-- the lines of tasks and the ceilings of their free places, as far as both go
abbrev pub free_lines : List Task → List (Option ℕ) → List ℕ
free_lines [] cs = []
free_lines (t ∷ ts) [] = []
free_lines (t ∷ ts) (c ∷ cs) = free_line t c ++ free_lines ts cs

-- the ceiling of the ready queue of a level
abbrev pub ready_line : ReadyCeiling → List ℕ
ready_line r = line (codes "ceiling") (codes "ready." ++ decimal r.level) r.ceiling

-- the ceiling of the timer queue, where it has one
abbrev pub timer_line : Option ℕ → List ℕ
timer_line None = []
timer_line (Some c) = line (codes "ceiling") (codes "timer.0") c

-- the name of a task, where there is one
abbrev pub name_or_none : Option Task → List ℕ
name_or_none None = []
name_or_none (Some t) = t.name

-- the name of a body
abbrev pub body_name : List Task → BodyId → List ℕ
body_name tasks body.Init = codes "init"
body_name tasks body.Idle = codes "idle"
body_name tasks (body.Task n) = name_or_none (slice_get tasks n)

-- the frame and the cost of a body
abbrev pub body_lines : List Task → BodyBound → List ℕ
body_lines tasks b =
    line (codes "frame") (body_name tasks b.body) b.frame ++ line (codes "cost") (body_name tasks b.body) b.cost

-- the waiting bound of a priority
abbrev pub wait_line : Wait → List ℕ
wait_line w = line (codes "wait") (decimal w.priority) w.steps

-- the stack bound
abbrev pub stack_line : ℕ → List ℕ
stack_line n = codes "stack " ++ decimal n ++ codes "\n"

-- the ceilings: of resources, of free places, of ready queues and of the timer queue
abbrev pub ceiling_lines : App → Ceilings → List ℕ
ceiling_lines app c =
    shared_lines app.shared c.shared
    ++ (free_lines app.tasks c.free ++ (flat_map ready_line c.ready ++ timer_line c.timer))

-- the bounds: frames and costs, waiting bounds, and the stack bound
abbrev pub bound_lines : App → Bounds → List ℕ
bound_lines app b = flat_map (body_lines app.tasks) b.bodies ++ (flat_map wait_line b.waits ++ stack_line b.stack_bytes)

-- all lines of `check`
abbrev pub report : App → Ceilings → Bounds → List ℕ
report app c b = ceiling_lines app c ++ bound_lines app b
