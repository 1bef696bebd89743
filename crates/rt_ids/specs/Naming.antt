-- How interrupts, tasks, sections and bodies are named in the text of an image: interrupts, tasks and resources by the
-- names that the application declares; queues by the kind of the queue, a dot, and the name of their task or the number
-- of their level.
use Rattle.std.specs.Prelude.{ℕ, ◌==◌, List, [], ◌++◌, codes, decimal, find, option_map, unwrap_or, slice_index_or}
use Rattle.std.specs.Prelude.{Option, IsSome, ◌<◌, length}
use Rattle.rt_ids.specs.Names.{Names}
use Rattle.rt_ids.specs.declared.ids.BodyId.{BodyId}
use Rattle.rt_ids.specs.declared.ids.BodyId.TheVariants as body
use Rattle.rt_ids.specs.declared.ids.Section.{Section}
use Rattle.rt_ids.specs.declared.ids.Section.TheVariants as section

-- the first declared interrupt of this number
abbrev pub irq_named : Names → ℕ → Option (List ℕ × ℕ)
irq_named names number = find (λ irq. irq.1 == number) names.irqs

-- the name of the declared interrupt of this number, and the empty text where none is declared
abbrev pub irq_name : Names → ℕ → List ℕ
irq_name names number = unwrap_or (option_map (λ irq. irq.0) (irq_named names number)) []

-- the name of a task, given by its index in the order of declaration
abbrev pub task_name : Names → ℕ → List ℕ
task_name names task = slice_index_or names.tasks task []

-- the name of a shared resource, given by its index in the order of declaration
abbrev pub resource_name : Names → ℕ → List ℕ
resource_name names resource = slice_index_or names.shared resource []

-- the name of a body: `init`, `idle` or that of its task
abbrev pub body_name : Names → BodyId → List ℕ
body_name names body.Init = codes "init"
body_name names body.Idle = codes "idle"
body_name names (body.Task t) = task_name names t

-- the name of a section: that of its resource, or that of its queue
abbrev pub section_name : Names → Section → List ℕ
section_name names (section.Res r) = resource_name names r
section_name names (section.Free t) = codes "free." ++ task_name names t
section_name names (section.Ready p) = codes "ready." ++ decimal p
section_name names section.Timer = codes "timer.0"

-- an interrupt of this number is declared
abbrev pub IsDeclared : Names → ℕ → Type 0
IsDeclared names irq = IsSome (irq_named names irq)

-- there is this task
abbrev pub IsTask : Names → ℕ → Type 0
IsTask names task = task < length names.tasks

-- there is this body
abbrev pub IsBody : Names → BodyId → Type 0
IsBody names (body.Task t) = IsTask names t
IsBody names other = Unit {0}
