use Rattle.rt_app.specs.View.{block_of, statement_of}
use Rattle.rt_app.specs.Spawned.{statement_spawns, spawns}
use Rattle.rt_frames.proofs.Views.{branch_at, repeat_at, locked_at}
use Rattle.rt_frames.proofs.Sums.{spawns_more}
use Rattle.rt_frames.proofs.Flagging.{armed_both}
use Rattle.rt_frames.proofs.armed.+block.Goals as goal
use Rattle.std.proofs.Common.{take}

pub flag_block-loop-stmt-preserved : goal.flag_block-loop-stmt-preserved
flag_block-loop-stmt-preserved t c =
    rw (spawns_more c.args.stmts.now c.loop-stmt.stmt-index c.stmt-item.result c.loop-stmt-test.true c.stmt-item.is)
    (armed_both (spawns (block_of (take c.loop-stmt.stmt-index c.args.stmts.now)))
    (statement_spawns (statement_of c.stmt-item.result)) c.args.armed.now c.loop-stmt.armed
    c.flag_statement.new.armed c.loop-stmt.invariant
    c.flag_statement.ensures)

pub flag_statement-returns-in-Branch : goal.flag_statement-returns-in-Branch
flag_statement-returns-in-Branch t c =
    let is = branch_at c.args.stmt.now c.in-Branch._condition c.in-Branch.first c.in-Branch.second c.deref.result.now
    c.deref-in-Branch.result.now c.in-Branch.is c.deref.ensures.value c.deref-in-Branch.ensures.value in
    rw is
    (armed_both (spawns (block_of c.deref.result.now)) (spawns (block_of c.deref-in-Branch.result.now)) c.args.armed.now
    c.flag_block.new.armed c.flag_block-in-Branch.new.armed c.flag_block.ensures c.flag_block-in-Branch.ensures)

pub flag_statement-returns-in-Repeat : goal.flag_statement-returns-in-Repeat
flag_statement-returns-in-Repeat t c =
    let is = repeat_at c.args.stmt.now c.in-Repeat._variable c.in-Repeat._first c.in-Repeat._last c.in-Repeat.turn
    c.deref-in-Repeat.result.now c.in-Repeat.is c.deref-in-Repeat.ensures.value in
    rw is c.flag_block-in-Repeat.ensures

pub flag_statement-returns-in-Locked : goal.flag_statement-returns-in-Locked
flag_statement-returns-in-Locked t c =
    let is = locked_at c.args.stmt.now c.in-Locked._resource c.in-Locked.inner c.in-Locked._at
    c.deref-in-Locked.result.now c.in-Locked.is c.deref-in-Locked.ensures.value in
    rw is c.flag_block-in-Locked.ensures
