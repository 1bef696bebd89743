-- The trees and the faults so far are those of the expressions so far.
use Rattle.std.proofs.Common.{◌≡◌, ◌++◌, map, flat_map, take}
use Rattle.rt_ast.specs.View as written
use Rattle.rt_app.specs.View as built
use Rattle.rt_resolve.specs.Resolving as meant
use Rattle.rt_resolve.specs.Misnamed as wrong
use Rattle.rt_resolve.specs.Inside.NamesView.{names_of}
use Rattle.rt_resolve.proofs.expression.resolve_expressions.Given as goal

abbrev pub invariant-loop-expr : goal.invariant-loop-expr
invariant-loop-expr l = record {
  trees : map built.expression_of l.resolved.items ≡ map (meant.expression (names_of l.names))
      (map written.expression_of (take l.expr-index l.exprs));
  faults : l.faults.items ≡ l.fn.faults.items ++ flat_map (wrong.expression_faults (names_of l.names))
      (map written.expression_of (take l.expr-index l.exprs));
}
