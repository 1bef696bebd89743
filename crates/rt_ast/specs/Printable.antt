-- The applications that have a canonical text which is read as them: their names are names, their numbers are of 32
-- bits, and they keep the limits of application texts. `init` lists nothing shared.
use Rattle.std.specs.Prelude.{◌≡◌, ℕ, ◌<◌, ◌≤◌, List, [], length, Option, Some, None}
use Rattle.std.specs.List.{AllByRecursion}
use Rattle.rt_ids.specs.declared.limits.TheConstants.{TASKS, SHARED, LOCALS, IRQS, IRQ_NUMBERS, LEAST_BITS, MOST_BITS}
use Rattle.rt_ids.specs.declared.limits.TheConstants.{ARGUMENTS, CAPACITY, NESTING, STATEMENTS}
use Rattle.rt_ast.specs.declared.ident.Ident.{Ident}
use Rattle.rt_ast.specs.declared.ident.Number.{Number}
use Rattle.rt_ast.specs.declared.app.IrqTree.{IrqTree}
use Rattle.rt_ast.specs.declared.app.MonoTree.{MonoTree}
use Rattle.rt_ast.specs.declared.app.SharedTree.{SharedTree}
use Rattle.rt_ast.specs.declared.app.LocalTree.{LocalTree}
use Rattle.rt_ast.specs.declared.app.ListedTree.{ListedTree}
use Rattle.rt_ast.specs.Tree.{Body, Task, App, Block}
use Rattle.rt_ast.specs.PrintableBody.{IsPrintableName, IsPrintableNumber, ArePrintable, blocks_of, statements_of}

-- a property holds of what is there
abbrev pub IfThere : {A : Type 0} → (A → Type 0) → Option A → Type 0
IfThere P None = Unit {0}
IfThere P (Some x) = P x

-- all of these are names that read as names
abbrev pub ArePrintableNames : List Ident → Type 0
ArePrintableNames xs = AllByRecursion IsPrintableName xs

-- a name, and a number that an interrupt may have
abbrev pub IsPrintableIrq : IrqTree → Type 0
IsPrintableIrq irq = IsPrintableName irq.name × (irq.number.value < IRQ_NUMBERS)

-- a monotonic whose interrupt is named, with a priority of 32 bits
abbrev pub IsPrintableMono : MonoTree → Type 0
IsPrintableMono mono = IsPrintableName mono.binds × IsPrintableNumber mono.priority.value

-- a shared resource with a name and a first value of 32 bits
abbrev pub IsPrintableResource : SharedTree → Type 0
IsPrintableResource r = IsPrintableName r.name × IsPrintableNumber r.first

-- a local resource with a name and a first value of 32 bits
abbrev pub IsPrintableLocal : LocalTree → Type 0
IsPrintableLocal r = IsPrintableName r.name × IsPrintableNumber r.first

-- a listed resource that is named
abbrev pub IsPrintableListed : ListedTree → Type 0
IsPrintableListed r = IsPrintableName r.name

-- a block that reads as itself, and that keeps the limits of nesting and of the number of statements
pub record IsPrintableBlock (b : Block) : Type 0 where
  pub statements : ArePrintable b
  pub nesting : blocks_of b ≤ NESTING
  pub few : statements_of b ≤ STATEMENTS

-- a body whose lists are of names, with a block that reads as itself
pub record IsPrintableBody (b : Body) : Type 0 where
  pub shared : AllByRecursion IsPrintableListed b.shared
  pub local : ArePrintableNames b.local
  pub block : IsPrintableBlock b.block

-- a priority of 32 bits
abbrev pub IsPrintablePriority : Number → Type 0
IsPrintablePriority n = IsPrintableNumber n.value

-- a capacity that a task may have
abbrev pub IsPrintableCapacity : ℕ → Type 0
IsPrintableCapacity n = (1 ≤ n) × (n ≤ CAPACITY)

-- a task that reads as itself: each part that is there does, and the arguments are no more than a task may have
pub record IsPrintableTask (t : Task) : Type 0 where
  pub name : IsPrintableName t.name
  pub binds : IfThere IsPrintableName t.binds
  pub priority : IfThere IsPrintablePriority t.priority
  pub capacity : IfThere IsPrintableCapacity t.capacity
  pub args : ArePrintableNames t.args
  pub few_args : length t.args ≤ ARGUMENTS
  pub body : IsPrintableBody t.body

-- a body for `init`, which lists nothing shared
abbrev pub IsPrintableInit : Body → Type 0
IsPrintableInit b = IsPrintableBody b × (b.shared ≡ [])

-- an application that has a canonical text which is read as it
pub record IsPrintable (a : App) : Type 0 where
  pub name : IsPrintableName a.name
  pub bits : (LEAST_BITS ≤ a.bits) × (a.bits ≤ MOST_BITS)
  pub dispatchers : ArePrintableNames a.dispatchers
  pub irqs : AllByRecursion IsPrintableIrq a.irqs
  pub few_irqs : length a.irqs ≤ IRQS
  pub mono : IfThere IsPrintableMono a.mono
  pub shared : AllByRecursion IsPrintableResource a.shared
  pub few_shared : length a.shared ≤ SHARED
  pub locals : AllByRecursion IsPrintableLocal a.locals
  pub few_locals : length a.locals ≤ LOCALS
  pub init : IfThere IsPrintableInit a.init
  pub idle : IfThere IsPrintableBody a.idle
  pub tasks : AllByRecursion IsPrintableTask a.tasks
  pub few_tasks : length a.tasks ≤ TASKS
