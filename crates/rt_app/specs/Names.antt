-- The names that an application declares. As RTIC 1 has functions for tasks and fields for resources, of which Rust
-- takes no two of one name, names of one kind differ; it is this language's own that shared and local resources are
-- one kind.
use Rattle.std.specs.Prelude.{◌++◌, map}
use Rattle.std.specs.List.{AllByRecursion}
use Rattle.rt_ids.specs.Word.{IsName}
use Rattle.rt_ids.specs.Lists.{AreDifferent}
use Rattle.rt_ids.specs.Names.{Names}
use Rattle.rt_app.specs.Tree.{App}

-- the declared names: those of the interrupts, with their numbers, of the tasks and of the shared resources
abbrev pub names_of : App → Names
names_of app = record {
  irqs = map (λ d. (d.name, d.number)) app.irqs;
  tasks = map (λ t. t.name) app.tasks;
  shared = map (λ r. r.name) app.shared;
}

-- what an application declares are names, and those of one kind differ
pub record HasNames (app : App) : Type 0 where
  pub irqs : AllByRecursion (λ d. IsName d.name) app.irqs
  pub tasks : AllByRecursion (λ t. IsName t.name) app.tasks
  pub shared : AllByRecursion (λ r. IsName r.name) app.shared
  pub locals : AllByRecursion (λ r. IsName r.name) app.locals
  pub irqs_differ : AreDifferent (map (λ d. d.name) app.irqs)
  pub tasks_differ : AreDifferent (map (λ t. t.name) app.tasks)
  pub resources_differ : AreDifferent (map (λ r. r.name) app.shared ++ map (λ r. r.name) app.locals)
