use Rattle.rt_app.specs.View.{expression_of, statement_of, block_of}
use Rattle.rt_frames.proofs.Views.{branch_at, repeat_at, locked_at}
use Rattle.rt_baker_work.proofs.Zeros.{branch_zeros, repeat_zeros, locked_zeros, zeros_more}
use Rattle.rt_baker_work.proofs.begin.+zeros.Goals as goal

pub statement_zeros-returns-in_ok-zeros-in-Branch-2 : goal.statement_zeros-returns-in_ok-zeros-in-Branch-2
statement_zeros-returns-in_ok-zeros-in-Branch-2 t c =
    branch_zeros (statement_of c.args.stmt.now) (expression_of c.in-Branch._condition) (block_of
    c.as_slice.result.now) (block_of c.as_slice-in-Branch.result.now) c.args.vars.now.items
    c.zeros.new.vars.items
    c.zeros-in-Branch.new.vars.items
    (branch_at c.args.stmt.now c.in-Branch._condition c.in-Branch.first c.in-Branch.second c.as_slice.result.now
    c.as_slice-in-Branch.result.now c.in-Branch.is c.as_slice.ensures.value c.as_slice-in-Branch.ensures.value)
    c.in_ok-zeros-in-Branch.ensures c.in_ok-zeros-in-Branch-2.ensures

pub statement_zeros-returns-in_ok-zeros-in-Repeat : goal.statement_zeros-returns-in_ok-zeros-in-Repeat
statement_zeros-returns-in_ok-zeros-in-Repeat t c =
    repeat_zeros (statement_of c.args.stmt.now) c.in-Repeat._variable c.in-Repeat._first c.in-Repeat._last
    (block_of c.as_slice-in-Repeat.result.now) c.args.vars.now.items c.push-in-Repeat.new.self.items
    c.zeros-in-Repeat.new.vars.items
    (repeat_at c.args.stmt.now c.in-Repeat._variable c.in-Repeat._first c.in-Repeat._last c.in-Repeat.turn
    c.as_slice-in-Repeat.result.now c.in-Repeat.is c.as_slice-in-Repeat.ensures.value)
    c.in_ok-push-in-Repeat.ensures.items c.in_ok-zeros-in-Repeat.ensures

pub statement_zeros-returns-in_ok-zeros-in-Locked : goal.statement_zeros-returns-in_ok-zeros-in-Locked
statement_zeros-returns-in_ok-zeros-in-Locked t c =
    locked_zeros (statement_of c.args.stmt.now) c.in-Locked._resource c.in-Locked._at (block_of
    c.as_slice-in-Locked.result.now) c.args.vars.now.items c.zeros-in-Locked.new.vars.items
    (locked_at c.args.stmt.now c.in-Locked._resource c.in-Locked.inner c.in-Locked._at
    c.as_slice-in-Locked.result.now c.in-Locked.is c.as_slice-in-Locked.ensures.value)
    c.in_ok-zeros-in-Locked.ensures

pub zeros-loop-stmt-preserved : goal.zeros-loop-stmt-preserved
zeros-loop-stmt-preserved t c =
    zeros_more c.args.stmts.now c.loop-stmt.stmt-index c.stmt-item.result c.args.vars.now.items
    c.loop-stmt.vars.items c.statement_zeros.new.vars.items c.loop-stmt-test.true c.stmt-item.is
    c.loop-stmt.invariant
    c.in_ok-statement_zeros.ensures
