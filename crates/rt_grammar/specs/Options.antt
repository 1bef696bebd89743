-- The options of bodies and tasks.
--   Opts = "(" List(Opt) ")"
--   Opt = "binds" "=" Name | "priority" "=" Num | "capacity" "=" Num
--       | "shared" "=" "[" List([ "&" ] Name) "]" | "local" "=" "[" List(Name) "]"
-- Options come in any order, each at most once. `init` takes `local` alone, `idle` takes `shared` and `local`.
use Rattle.std.specs.Prelude.{ℕ, Bool, true, false, not, ◌&&◌, codes, List, [], Option, Some, None, is_none}
use Rattle.rt_ids.specs.declared.limit.Limit.TheVariants as limit
use Rattle.rt_ids.specs.declared.limits.TheConstants.{CAPACITY}
use Rattle.rt_ast.specs.declared.ident.Ident.{Ident}
use Rattle.rt_ast.specs.declared.ident.Number.{Number}
use Rattle.rt_ast.specs.declared.app.ListedTree.{ListedTree}
use Rattle.rt_grammar.specs.Language.{Language, gives, ◌>>=◌, ◌>>◌, ◌or◌, or_else, only_if}
use Rattle.rt_grammar.specs.Tokens.{word, sign, name, number, limited_number, list, adds, names}
use Rattle.rt_grammar.specs.Limits.{within}

-- the options of a body so far
pub record Options : Type 0 where
  pub binds : Option Ident
  pub priority : Option Number
  pub capacity : Option ℕ
  pub shared : Option (List ListedTree)
  pub local : Option (List Ident)

-- no option so far
abbrev pub no_options : Options
no_options = record { binds = None; priority = None; capacity = None; shared = None; local = None }

-- whose body it is
pub data Owner : Type 0 where
  OfInit : Owner
  OfIdle : Owner
  OfTask : Owner

-- whether a body is a task's
abbrev pub is_task : Owner → Bool
is_task OfTask = true
is_task other = false

-- whether a body is that of `init`
abbrev pub is_init : Owner → Bool
is_init OfInit = true
is_init other = false

-- the interrupt that a task is bound to
abbrev pub binds_option : Owner → Options → Language Options
binds_option owner o = only_if (is_task owner && is_none o.binds) (do
  word (codes "binds")
  sign (codes "=")
  x ← name
  gives (record o { binds = Some x }))

-- the priority of a task
abbrev pub priority_option : Owner → Options → Language Options
priority_option owner o = only_if (is_task owner && is_none o.priority) (do
  word (codes "priority")
  sign (codes "=")
  n ← number
  gives (record o { priority = Some n }))

-- the capacity of a task's messages
abbrev pub capacity_option : Owner → Options → Language Options
capacity_option owner o = only_if (is_task owner && is_none o.capacity) (do
  word (codes "capacity")
  sign (codes "=")
  n ← limited_number (within 1 CAPACITY limit.Capacity)
  gives (record o { capacity = Some n.value }))

-- a shared resource that a body lists, by its name or by reference
abbrev pub listed_resource : Language ListedTree
listed_resource =
    (do at ← sign (codes "&"); x ← name; gives (record { name = x; by_ref = true; at = at }))
    or (do x ← name; gives (record { name = x; by_ref = false; at = x.at }))

-- the shared resources that a body other than `init` lists
abbrev pub shared_option : Owner → Options → Language Options
shared_option owner o = only_if (not (is_init owner) && is_none o.shared) (do
  word (codes "shared")
  sign (codes "=")
  sign (codes "[")
  xs ← list (codes "]") (adds (λ before. listed_resource)) []
  gives (record o { shared = Some xs }))

-- the local resources that a body lists
abbrev pub local_option : Owner → Options → Language Options
local_option owner o = only_if (is_none o.local) (do
  word (codes "local")
  sign (codes "=")
  xs ← names
  gives (record o { local = Some xs }))

-- one option more, which is none of those so far
abbrev pub option : Owner → Options → Language Options
option owner o =
    binds_option owner o or priority_option owner o or capacity_option owner o or shared_option owner o
    or local_option owner o

-- the options in parentheses, or nothing
abbrev pub options : Owner → Language Options
options owner = or_else no_options (sign (codes "(") >> list (codes ")") (option owner) no_options)
