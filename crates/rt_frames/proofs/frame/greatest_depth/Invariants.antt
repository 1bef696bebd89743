-- The greatest depth of the expressions so far.
use Rattle.std.proofs.Common.{◌≡◌, map, take}
use Rattle.rt_app.specs.View.{expression_of}
use Rattle.rt_ids.specs.Lists.{greatest}
use Rattle.rt_app.specs.Frame.{expression_depth}
use Rattle.rt_frames.specs.Inside.Saturated.{saturated_number}
use Rattle.rt_frames.proofs.frame.greatest_depth.Given as goal

abbrev pub invariant-loop-expr : goal.invariant-loop-expr
invariant-loop-expr l =
    l.most ≡ saturated_number (greatest (map expression_depth (map expression_of (take l.expr-index l.exprs))))
