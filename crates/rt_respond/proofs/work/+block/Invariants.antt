-- What the statements so far release.
use Rattle.std.proofs.Common.{◌≡◌, take}
use Rattle.rt_app.specs.View.{block_of}
use Rattle.rt_respond.specs.Work.{block_sends}
use Rattle.rt_respond.specs.Inside.Works.{table_asks}
use Rattle.rt_respond.proofs.work.+block.Given as goal

abbrev pub invariant-block_sends-loop-stmt : goal.invariant-block_sends-loop-stmt
invariant-block_sends-loop-stmt l =
    l.sum ≡ block_sends (table_asks l.all.handlers.now l.all.works.now) (block_of (take l.stmt-index l.stmts))
