-- The sum so far is that of the statements so far.
use Rattle.std.proofs.Common.{◌≡◌, take}
use Rattle.rt_app.specs.View.{block_of}
use Rattle.rt_app.specs.Cost.{block_cost}
use Rattle.rt_frames.proofs.measure.Measure.+block.Given as goal

abbrev pub invariant-block-loop-stmt : goal.invariant-block-loop-stmt
invariant-block-loop-stmt l = l.sum ≡ block_cost l.self (block_of (take l.stmt-index l.stmts))
