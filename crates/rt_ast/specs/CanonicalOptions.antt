-- The canonical text of options: each that is there, in the grammar's order, in parentheses.
use Rattle.std.specs.Prelude.{ℕ, Bool, codes, decimal, List, [], ◌∷◌, ◌++◌, Option, Some, None, if◌then◌else◌}
use Rattle.rt_ast.specs.declared.ident.Ident.{Ident}
use Rattle.rt_ast.specs.declared.ident.Number.{Number}
use Rattle.rt_ast.specs.declared.app.ListedTree.{ListedTree}
use Rattle.rt_ast.specs.Tree.{Body, Task}
use Rattle.rt_ast.specs.CanonicalExpression.{separated_list, name_text}

-- a list in brackets
abbrev pub bracketed_list : {A : Type 0} → (A → List ℕ) → List A → List ℕ
bracketed_list text xs = codes "[" ++ separated_list text xs ++ codes "]"

-- the sign `&` before a resource that is listed by reference
abbrev pub by_ref_text : Bool → List ℕ
by_ref_text by_ref = if by_ref then codes "&" else []

-- a resource that a body lists as shared
abbrev pub listed_text : ListedTree → List ℕ
listed_text r = by_ref_text r.by_ref ++ name_text r.name

-- the option of the interrupt that a task is bound to, where it has one
abbrev pub binds_option_text : Option Ident → List (List ℕ)
binds_option_text None = []
binds_option_text (Some x) = (codes "binds = " ++ name_text x) ∷ []

-- the option of a priority, where one is given
abbrev pub priority_option_text : Option Number → List (List ℕ)
priority_option_text None = []
priority_option_text (Some n) = (codes "priority = " ++ decimal n.value) ∷ []

-- the option of a capacity, where one is given
abbrev pub capacity_option_text : Option ℕ → List (List ℕ)
capacity_option_text None = []
capacity_option_text (Some n) = (codes "capacity = " ++ decimal n) ∷ []

-- the option that lists shared resources, where there are any
abbrev pub shared_option_text : List ListedTree → List (List ℕ)
shared_option_text [] = []
shared_option_text (r ∷ rs) = (codes "shared = " ++ bracketed_list listed_text (r ∷ rs)) ∷ []

-- the option that lists local resources, where there are any
abbrev pub local_option_text : List Ident → List (List ℕ)
local_option_text [] = []
local_option_text (x ∷ xs) = (codes "local = " ++ bracketed_list name_text (x ∷ xs)) ∷ []

-- the options of a body: what it lists as shared and as local
abbrev pub body_options : Body → List (List ℕ)
body_options b = shared_option_text b.shared ++ local_option_text b.local

-- the options of a task: its own, and then those of its body
abbrev pub task_options : Task → List (List ℕ)
task_options t =
    binds_option_text t.binds ++ priority_option_text t.priority ++ capacity_option_text t.capacity
    ++ body_options t.body

-- options in parentheses, where there are any
abbrev pub options_text : List (List ℕ) → List ℕ
options_text [] = []
options_text (o ∷ os) = codes "(" ++ separated_list (λ text. text) (o ∷ os) ++ codes ")"
