-- The greatest cost of a section of the statements so far that counts; each call is of fewer statements.
use Rattle.std.proofs.Common.{◌≡◌, ◌+◌, ◌*◌, take}
use Rattle.rt_app.specs.Limits.{statements_in, statements_of}
use Rattle.rt_app.specs.View.{statement_of, block_of, app_of}
use Rattle.rt_frames.specs.Inside.Waits.{block_wait}
use Rattle.rt_frames.proofs.waiting.+block.Given as goal

abbrev pub invariant-block_wait-loop-stmt : goal.invariant-block_wait-loop-stmt
invariant-block_wait-loop-stmt l = l.most ≡ block_wait (app_of l.app) l.measure l.ceilings l.priority
    (block_of (take l.stmt-index l.stmts))

abbrev pub decreases-statement_wait : goal.decreases-statement_wait
decreases-statement_wait l = 2 * statements_in (statement_of l.stmt.now)

abbrev pub decreases-block_wait : goal.decreases-block_wait
decreases-block_wait l = 2 * statements_of (block_of l.stmts.now) + 1
