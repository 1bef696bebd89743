-- The sum so far is that of the expressions so far.
use Rattle.std.proofs.Common.{◌≡◌, map, take}
use Rattle.rt_app.specs.View.{expression_of}
use Rattle.rt_app.specs.Cost.{expressions_cost}
use Rattle.rt_frames.proofs.measure.expressions_cost.Given as goal

abbrev pub invariant-loop-expr : goal.invariant-loop-expr
invariant-loop-expr l = l.sum ≡ expressions_cost (map expression_of (take l.expr-index l.exprs))
