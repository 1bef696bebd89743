-- The most that one of the statements so far holds off.
use Rattle.std.proofs.Common.{◌≡◌, take}
use Rattle.rt_app.specs.View.{block_of, app_of}
use Rattle.rt_respond.specs.Inside.Works.{table_asks}
use Rattle.rt_respond.specs.Inside.Holding.{block_most}
use Rattle.rt_respond.proofs.blocking.+block.Given as goal

abbrev pub invariant-block_holds-loop-stmt : goal.invariant-block_holds-loop-stmt
invariant-block_holds-loop-stmt l =
    l.most ≡ block_most (app_of l.app) l.held.counted
    (table_asks l.held.all.handlers.now l.held.all.works.now) l.held.ceilings.now
    l.held.measure.now l.held.this.now.priority (block_of (take l.stmt-index l.stmts))
