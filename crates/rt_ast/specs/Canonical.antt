-- The canonical text of an application, as bytes. One declaration begins each line, in the grammar's order, and a line
-- feed ends each.
use Rattle.std.specs.Prelude.{ℕ, Bool, codes, decimal, List, [], ◌∷◌, ◌++◌, flat_map, Option, Some, None, if◌then◌else◌}
use Rattle.rt_ast.specs.declared.ident.Ident.{Ident}
use Rattle.rt_ast.specs.declared.app.IrqTree.{IrqTree}
use Rattle.rt_ast.specs.declared.app.MonoTree.{MonoTree}
use Rattle.rt_ast.specs.declared.app.SharedTree.{SharedTree}
use Rattle.rt_ast.specs.declared.app.LocalTree.{LocalTree}
use Rattle.rt_ast.specs.Tree.{Body, Task, App}
use Rattle.rt_ast.specs.CanonicalExpression.{newline, separated_list, name_text, names_text}
use Rattle.rt_ast.specs.CanonicalBlock.{block_text}
use Rattle.rt_ast.specs.CanonicalOptions.{bracketed_list, body_options, task_options, options_text}

-- a list in braces
abbrev pub braced_list : {A : Type 0} → (A → List ℕ) → List A → List ℕ
braced_list text [] = codes "{}"
braced_list text (x ∷ xs) = codes "{ " ++ separated_list text (x ∷ xs) ++ codes " }"

-- the option that lists the dispatchers, and nothing where there is none
abbrev pub dispatchers_text : List Ident → List ℕ
dispatchers_text [] = []
dispatchers_text (x ∷ xs) = codes ", dispatchers = " ++ bracketed_list name_text (x ∷ xs)

-- the option of the floating-point extension, and nothing where it is off
abbrev pub fpu_text : Bool → List ℕ
fpu_text fpu = if fpu then codes ", fpu = on" else []

-- the line of the application itself: its name and its options
abbrev pub head_text : App → List ℕ
head_text a = codes "app " ++ name_text a.name ++ codes "(bits = " ++ decimal a.bits ++ dispatchers_text a.dispatchers
    ++ fpu_text a.fpu ++ codes ");" ++ newline

-- a declared interrupt: its name and its number
abbrev pub irq_text : IrqTree → List ℕ
irq_text irq = name_text irq.name ++ codes " = " ++ decimal irq.number.value

-- the line of the declared interrupts
abbrev pub irqs_text : List IrqTree → List ℕ
irqs_text irqs = codes "interrupts " ++ braced_list irq_text irqs ++ newline

-- the line of the monotonic, and nothing where there is none
abbrev pub mono_text : Option MonoTree → List ℕ
mono_text None = []
mono_text (Some mono) =
    codes "monotonic(binds = " ++ name_text mono.binds ++ codes ", priority = " ++ decimal mono.priority.value
    ++ codes ");" ++ newline

-- the word `lock_free` before a shared resource that is so
abbrev pub lock_free_text : Bool → List ℕ
lock_free_text lock_free = if lock_free then codes "lock_free " else []

-- a shared resource: its name and its first value
abbrev pub resource_text : SharedTree → List ℕ
resource_text r = lock_free_text r.lock_free ++ name_text r.name ++ codes " = " ++ decimal r.first

-- the line of the shared resources, and nothing where there is none
abbrev pub shared_text : List SharedTree → List ℕ
shared_text [] = []
shared_text (r ∷ rs) = codes "shared " ++ braced_list resource_text (r ∷ rs) ++ newline

-- a local resource: its name and its first value
abbrev pub local_text : LocalTree → List ℕ
local_text r = name_text r.name ++ codes " = " ++ decimal r.first

-- the line of the local resources, and nothing where there is none
abbrev pub locals_text : List LocalTree → List ℕ
locals_text [] = []
locals_text (r ∷ rs) = codes "local " ++ braced_list local_text (r ∷ rs) ++ newline

-- the declaration of `init` or `idle`, which begins with this word, and nothing where there is none
abbrev pub body_text : List ℕ → Option Body → List ℕ
body_text word None = []
body_text word (Some b) = word ++ options_text (body_options b) ++ codes " " ++ block_text [] b.block ++ newline

-- the arguments that a task declares, and nothing where there is none
abbrev pub arguments_text : List Ident → List ℕ
arguments_text [] = []
arguments_text (x ∷ xs) = codes " with " ++ names_text (x ∷ xs)

-- the declaration of a task
abbrev pub task_text : Task → List ℕ
task_text t =
    codes "task " ++ name_text t.name ++ options_text (task_options t) ++ arguments_text t.args ++ codes " "
    ++ block_text [] t.body.block ++ newline

-- the canonical text of an application
abbrev pub canonical : App → List ℕ
canonical a =
    head_text a ++ irqs_text a.irqs ++ mono_text a.mono ++ shared_text a.shared ++ locals_text a.locals
    ++ body_text (codes "init") a.init
    ++ body_text (codes "idle") a.idle ++ flat_map task_text a.tasks
