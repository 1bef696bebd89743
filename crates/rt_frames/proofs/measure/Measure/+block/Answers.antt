use Rattle.std.proofs.Common.{arith}
use Rattle.rt_frames.proofs.Views.{branch_at, repeat_at, locked_at}
use Rattle.rt_frames.proofs.Sums.{block_cost_more}
use Rattle.rt_frames.proofs.measure.Measure.+block.Goals as goal

pub block-loop-stmt-preserved : goal.block-loop-stmt-preserved
block-loop-stmt-preserved t c =
    omega (
      arith,
      block_cost_more c.args.self.now c.args.stmts.now c.loop-stmt.stmt-index c.stmt-item.result
          c.loop-stmt-test.true c.stmt-item.is,
    )

pub statement-returns-in-Branch : goal.statement-returns-in-Branch
statement-returns-in-Branch t c =
    let is = branch_at c.args.stmt.now c.in-Branch.condition c.in-Branch.first c.in-Branch.second c.deref.result.now
    c.deref-in-Branch.result.now c.in-Branch.is c.deref.ensures.value c.deref-in-Branch.ensures.value in
    rw (is, ← c.block.ensures, ← c.block-in-Branch.ensures) c.branch-self.ensures

pub statement-returns-in-Repeat : goal.statement-returns-in-Repeat
statement-returns-in-Repeat t c =
    let is = repeat_at c.args.stmt.now c.in-Repeat._variable c.in-Repeat.first c.in-Repeat.last c.in-Repeat.turn
    c.deref-in-Repeat.result.now c.in-Repeat.is c.deref-in-Repeat.ensures.value in
    rw (is, ← c.block-in-Repeat.ensures) c.repeat.ensures

pub statement-returns-in-Locked : goal.statement-returns-in-Locked
statement-returns-in-Locked t c =
    let is = locked_at c.args.stmt.now c.in-Locked._resource c.in-Locked.inner c.in-Locked._at
    c.deref-in-Locked.result.now c.in-Locked.is c.deref-in-Locked.ensures.value in
    rw (is, ← c.block-in-Locked.ensures) c.lock_cost.ensures
