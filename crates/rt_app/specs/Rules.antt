-- Every rule that an application breaks, but for those on names.
use Rattle.std.specs.Prelude.{List, ◌++◌}
use Rattle.rt_app.specs.declared.violation.Violation.{Violation}
use Rattle.rt_app.specs.Tree.{App}
use Rattle.rt_app.specs.Declarations.{declarations}
use Rattle.rt_app.specs.Listing.{listings_breaks}
use Rattle.rt_app.specs.Statements.{statements}
use Rattle.rt_app.specs.Length.{lengths}

-- every rule that an application breaks, those on declarations first
abbrev pub violations : App → List Violation
violations app = declarations app ++ (listings_breaks app ++ (statements app ++ lengths app))
