-- What names mean: declared things by their index in the order of declaration, and variables by their scopes. The
-- language is this project's own; blocks nest as in Rust, but a name in scope is not declared again.
use Rattle.std.specs.Prelude.{ℕ, ◌+◌, Bool, List, ◌∷◌, take, find, position, Option, None, option_map, unwrap_or}
use Rattle.std.specs.Prelude.{if◌then◌else◌}
use Rattle.std.specs.List.{list_any}
use Rattle.std.specs.Option.{option_or}
use Rattle.std.specs.Str.{bytes_eq}
use Rattle.rt_ast.specs.declared.ident.Ident.{Ident}
use Rattle.rt_ast.specs.Tree.{App}
use Rattle.rt_app.specs.declared.TheConstants.{UNKNOWN}
use Rattle.rt_app.specs.declared.expr.Atom.{Atom}
use Rattle.rt_app.specs.declared.expr.Atom.TheVariants as atom

-- whether a declaration has this name
abbrev pub is_named : List ℕ → Ident → Bool
is_named name x = bytes_eq x.name name

-- the number of a declared interrupt by its name: of two declarations of a name, it means the first
abbrev pub irq_named : App → List ℕ → Option ℕ
irq_named app name = position (λ d. is_named name d.name) app.irqs

-- the number of a declared task by its name
abbrev pub task_named : App → List ℕ → Option ℕ
task_named app name = position (λ t. is_named name t.name) app.tasks

-- the number of a declared shared resource by its name
abbrev pub shared_resource_named : App → List ℕ → Option ℕ
shared_resource_named app name = position (λ r. is_named name r.name) app.shared

-- the number of a declared local resource by its name
abbrev pub local_named : App → List ℕ → Option ℕ
local_named app name = position (λ r. is_named name r.name) app.locals

-- the number of what is found
abbrev pub or_unknown : Option ℕ → ℕ
or_unknown found = unwrap_or found UNKNOWN

-- a variable of a body: its name, and its number among the variables of the body
pub record Variable : Type 0 where
  pub name : List ℕ
  pub number : ℕ

-- the variables in scope, the one declared last first, and how many of them the innermost block has
pub record Scope : Type 0 where
  pub variables : List Variable
  pub here : ℕ

-- whether a variable has this name
abbrev pub is_variable : List ℕ → Variable → Bool
is_variable name v = bytes_eq v.name name

-- one variable more in the innermost block
abbrev pub one_more : Scope → List ℕ → ℕ → Scope
one_more s name n = record { variables = record { name = name; number = n } ∷ s.variables; here = s.here + 1 }

-- a second variable of a name in one block, which is refused, changes nothing: the name means the first
abbrev pub scope_with_variable : Scope → List ℕ → ℕ → Scope
scope_with_variable s name n = if list_any (is_variable name) (take s.here s.variables) then s else one_more s name n

-- inside a block that begins here
abbrev pub scope_in_block : Scope → Scope
scope_in_block s = record { variables = s.variables; here = 0 }

-- where the names of a body are looked up: the declarations, the local resources that it lists, and its variables
pub record Names : Type 0 where
  pub app : App
  pub local : List Ident
  pub scope : Scope

-- the names inside a block that begins here
abbrev pub inside : Names → Names
inside names = record { app = names.app; local = names.local; scope = scope_in_block names.scope }

-- the names with a variable more, of this number
abbrev pub with_variable : Names → Ident → ℕ → Names
with_variable names x n = record {
  app = names.app;
  local = names.local;
  scope =
      scope_with_variable names.scope x.name n;
}

-- the variable in scope that a name means: the one declared last
abbrev pub variable_named : Names → List ℕ → Option Atom
variable_named names name = option_map (λ v. atom.Var v.number) (find (is_variable name) names.scope.variables)

-- a local resource, where the body lists it
abbrev pub owned_local_named : Names → List ℕ → Option Atom
owned_local_named names name =
    if list_any (is_named name) names.local then option_map atom.Local (local_named names.app name) else None

-- what a name in an expression or an assignment stands for: a variable before a shared resource before a local one
abbrev pub meaning : Names → List ℕ → Option Atom
meaning names name =
    option_or (variable_named names name)
    (option_or (option_map atom.Shared (shared_resource_named names.app name)) (owned_local_named names name))

-- what a name stands for, and an unknown shared resource where it means nothing
abbrev pub atom_named : Names → List ℕ → Atom
atom_named names name = unwrap_or (meaning names name) (atom.Shared UNKNOWN)
