use Rattle.rt_app.specs.View.{expression_of, statement_of, block_of}
use Rattle.rt_frames.proofs.Views.{branch_at, repeat_at, locked_at}
use Rattle.rt_frames.proofs.Frames.{more_gives, branch_gives, repeat_gives, locked_gives}
use Rattle.rt_frames.proofs.frame.+block.Goals as goal

pub block-loop-stmt-preserved : goal.block-loop-stmt-preserved
block-loop-stmt-preserved t c =
    more_gives c.args.stmts.now c.loop-stmt.stmt-index c.stmt-item.result c.loop-stmt.parts c.statement.result
    c.both-parts.result c.loop-stmt-test.true c.stmt-item.is c.loop-stmt.invariant c.statement.ensures
    c.both-parts.ensures

pub statement-returns-in-Branch : goal.statement-returns-in-Branch
statement-returns-in-Branch t c =
    let is = branch_at c.args.stmt.now c.in-Branch.condition c.in-Branch.first c.in-Branch.second c.deref.result.now
    c.deref-in-Branch.result.now c.in-Branch.is c.deref.ensures.value c.deref-in-Branch.ensures.value in
    branch_gives (statement_of c.args.stmt.now) (expression_of c.in-Branch.condition) (block_of c.deref.result.now)
    (block_of c.deref-in-Branch.result.now) c.expression-in-Branch.result c.block.result c.block-in-Branch.result
    c.both.result c.both-in-Branch.result is c.expression-in-Branch.ensures c.block.ensures c.block-in-Branch.ensures
    c.both.ensures c.both-in-Branch.ensures

pub statement-returns-in-Repeat : goal.statement-returns-in-Repeat
statement-returns-in-Repeat t c =
    let is = repeat_at c.args.stmt.now c.in-Repeat._variable c.in-Repeat._first c.in-Repeat._last c.in-Repeat.turn
    c.deref-in-Repeat.result.now c.in-Repeat.is c.deref-in-Repeat.ensures.value in
    repeat_gives (statement_of c.args.stmt.now) c.in-Repeat._variable c.in-Repeat._first c.in-Repeat._last
    (block_of c.deref-in-Repeat.result.now) c.block-in-Repeat.result c.with_loop.result is c.block-in-Repeat.ensures
    c.with_loop.ensures

pub statement-returns-in-Locked : goal.statement-returns-in-Locked
statement-returns-in-Locked t c =
    let is = locked_at c.args.stmt.now c.in-Locked._resource c.in-Locked.inner c.in-Locked._at
    c.deref-in-Locked.result.now c.in-Locked.is c.deref-in-Locked.ensures.value in
    locked_gives (statement_of c.args.stmt.now) c.in-Locked._resource (block_of c.deref-in-Locked.result.now)
    c.in-Locked._at c.block-in-Locked.result c.with_lock.result is c.block-in-Locked.ensures c.with_lock.ensures
