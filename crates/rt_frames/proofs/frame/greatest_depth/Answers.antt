use Rattle.std.proofs.Common.{arith}
use Rattle.rt_frames.proofs.Frames.{depths_more}
use Rattle.rt_frames.proofs.frame.greatest_depth.Goals as goal

pub loop-expr-preserved : goal.loop-expr-preserved
loop-expr-preserved c = omega (
  arith,
  depths_more c.args.exprs.now c.loop-expr.expr-index c.expr-item.result
      c.loop-expr-test.true c.expr-item.is,
)
