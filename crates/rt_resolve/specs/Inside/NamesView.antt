-- The names that the code looks up, as names of the definitions.
use Rattle.std.specs.Prelude.{◌≤◌, length}
use Rattle.rt_ids.specs.declared.limits.TheConstants.{IRQS, TASKS, SHARED, LOCALS, STATEMENTS}
use Rattle.rt_ast.specs.Tree.{Body, App}
use Rattle.rt_ast.specs.PrintableBody.{statements_of}
use Rattle.rt_ast.specs.View.{app_of}
use Rattle.rt_resolve.specs.declared.scope.Names as code
use Rattle.rt_app.specs.Declarations.{Used}
use Rattle.rt_resolve.specs.declared.listing.Listing.{Listing}
use Rattle.rt_resolve.specs.Scope.{Names}

-- the names of the definitions that the code's names are
abbrev pub names_of : code.Names → Names
names_of n = record { app = app_of n.app.now; local = n.local.now; scope = n.variables }

-- the use of a resource that the code's listing is
abbrev pub use_of : Listing → Used
use_of l = record { number = l.number; at = l.at }

-- an application whose tables have so few rows that a byte tells each from the number of a name that is not found
pub record IsCounted (a : App) : Type 0 where
  pub irqs : length a.irqs ≤ IRQS
  pub tasks : length a.tasks ≤ TASKS
  pub shared : length a.shared ≤ SHARED
  pub locals : length a.locals ≤ LOCALS

-- a body whose variables two bytes number
abbrev pub IsShort : Body → Type 0
IsShort b = statements_of b.block ≤ STATEMENTS
