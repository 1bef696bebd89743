-- The values of the expressions so far.
use Rattle.std.proofs.Common.{◌≡◌, map, take}
use Rattle.rt_app.specs.View.{expression_of}
use Rattle.rt_app.specs.Meaning.{value_in}
use Rattle.rt_baker_work.specs.Store.{contents}
use Rattle.rt_baker_work.proofs.statement.values.Given as goal

abbrev pub invariant-loop-expr : goal.invariant-loop-expr
invariant-loop-expr l = l.values.items ≡ map (value_in l.vars (contents l.store)) (map expression_of (take
    l.expr-index l.exprs))
