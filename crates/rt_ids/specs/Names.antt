-- The names that an application declares, in order of declaration. A task or a shared resource is its index in the
-- list. As RTIC 1 has functions for tasks and fields for resources, of which Rust takes no two of one name, names of
-- one kind differ. The code keeps maps in order of insertion.
use Rattle.std.specs.Prelude.{ℕ, ◌≤◌, List, [], ◌∷◌, ◌++◌, length, map, find, position, bytes_eq, Option, option_map}
use Rattle.std.specs.List.{AllByRecursion}
use Rattle.rt_ids.specs.Lists.{AreDifferent}
use Rattle.rt_ids.specs.Word.{IsName}
use Rattle.rt_ids.specs.declared.limits.TheConstants.{IRQS, TASKS, SHARED}

-- the names that an application declares, by their kinds
pub record Names : Type 0 where
  -- the declared interrupts, each with its number
  pub irqs : List (List ℕ × ℕ)
  pub tasks : List (List ℕ)
  -- the shared resources
  pub shared : List (List ℕ)

-- each is a name, none stands twice among those of its kind, and there are no more than an application may declare
pub record AreNames (names : Names) : Type 0 where
  pub irqs : AllByRecursion (λ irq. IsName irq.0) names.irqs
  pub tasks : AllByRecursion IsName names.tasks
  pub shared : AllByRecursion IsName names.shared
  pub irqs_differ : AreDifferent (map (λ irq. irq.0) names.irqs)
  pub tasks_differ : AreDifferent names.tasks
  pub shared_differ : AreDifferent names.shared
  pub few_irqs : length names.irqs ≤ IRQS
  pub few_tasks : length names.tasks ≤ TASKS
  pub few_shared : length names.shared ≤ SHARED

-- the number of the declared interrupt of a name
abbrev pub irq_of : Names → List ℕ → Option ℕ
irq_of names name = option_map (λ irq. irq.1) (find (λ irq. bytes_eq name irq.0) names.irqs)

-- the task of a name
abbrev pub task_index : Names → List ℕ → Option ℕ
task_index names name = position (bytes_eq name) names.tasks

-- the shared resource of a name
abbrev pub resource_of : Names → List ℕ → Option ℕ
resource_of names name = position (bytes_eq name) names.shared

-- no name is declared
abbrev pub no_names : Names
no_names = record { irqs = []; tasks = []; shared = [] }

-- the names with an interrupt more, of this number
abbrev pub with_irq : Names → List ℕ → ℕ → Names
with_irq names name number = record names { irqs = names.irqs ++ (name, number) ∷ [] }

-- the names with a task more
abbrev pub with_task : Names → List ℕ → Names
with_task names name = record names { tasks = names.tasks ++ name ∷ [] }

-- the names with a shared resource more
abbrev pub with_resource : Names → List ℕ → Names
with_resource names name = record names { shared = names.shared ++ name ∷ [] }
