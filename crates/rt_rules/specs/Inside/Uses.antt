-- The first violation behind uses of a body.
use Rattle.std.specs.Prelude.{List, flat_map, Option}
use Rattle.rt_app.specs.Tree.{App}
use Rattle.rt_app.specs.Bodies.{Member}
use Rattle.rt_app.specs.declared.violation.Violation.{Violation}
use Rattle.rt_app.specs.Use.{Placed}
use Rattle.rt_app.specs.Statements.{breaks}
use Rattle.rt_rules.specs.Inside.First.{first_of}

-- the first violation of those found so far and of these uses
abbrev pub first_use : App → Member → Option Violation → List Placed → Option Violation
first_use app m o ps = first_of o (flat_map (breaks app m) ps)
