use Rattle.std.proofs.Common.{refl, sym, ◌∙◌}
use Rattle.rt_app.specs.View.{expression_of, statement_of, block_of}
use Rattle.rt_frames.proofs.Views.{branch_at, repeat_at, locked_at}
use Rattle.rt_frames.proofs.NoPend.{no_pend_more, pend_at, branch_pend, branch_second}
use Rattle.rt_frames.proofs.form.+block.Goals as goal

pub holds_no_pend-loop-stmt-preserved : goal.holds_no_pend-loop-stmt-preserved
holds_no_pend-loop-stmt-preserved t c =
    no_pend_more c.args.stmts.now c.loop-stmt.stmt-index c.stmt-item.result c.statement_holds_no_pend.result
    c.loop-stmt-test.true c.stmt-item.is c.loop-stmt.invariant c.statement_holds_no_pend.ensures
    c.if-not-statement_holds_no_pend.false

pub holds_no_pend-returns-then-not-statement_holds_no_pend : goal.holds_no_pend-returns-then-not-statement_holds_no_pend
holds_no_pend-returns-then-not-statement_holds_no_pend t c =
    sym (pend_at c.args.stmts.now c.loop-stmt.stmt-index c.stmt-item.result c.loop-stmt-test.true c.stmt-item.is
    (sym c.statement_holds_no_pend.ensures ∙ c.if-not-statement_holds_no_pend.true))

pub statement_holds_no_pend-returns-then-holds_no_pend : goal.statement_holds_no_pend-returns-then-holds_no_pend
statement_holds_no_pend-returns-then-holds_no_pend t c =
    let is = branch_at c.args.stmt.now c.in-Branch._condition c.in-Branch.first c.in-Branch.second c.deref.result.now
    c.deref-then-holds_no_pend.result.now c.in-Branch.is c.deref.ensures.value
    c.deref-then-holds_no_pend.ensures.value in
    branch_second (statement_of c.args.stmt.now) (expression_of c.in-Branch._condition) (block_of c.deref.result.now)
    (block_of c.deref-then-holds_no_pend.result.now) c.holds_no_pend.result
    c.holds_no_pend-then-holds_no_pend.result is c.holds_no_pend.ensures c.if-holds_no_pend.true
    c.holds_no_pend-then-holds_no_pend.ensures

pub statement_holds_no_pend-returns-else-holds_no_pend : goal.statement_holds_no_pend-returns-else-holds_no_pend
statement_holds_no_pend-returns-else-holds_no_pend t c =
    let is = branch_at c.args.stmt.now c.in-Branch._condition c.in-Branch.first c.in-Branch.second c.deref.result.now
    c.in-Branch.second.items c.in-Branch.is c.deref.ensures.value refl in
    branch_pend (statement_of c.args.stmt.now) (expression_of c.in-Branch._condition) (block_of c.deref.result.now)
    (block_of c.in-Branch.second.items) c.holds_no_pend.result is c.holds_no_pend.ensures
    c.if-holds_no_pend.false

pub statement_holds_no_pend-returns-in-Repeat : goal.statement_holds_no_pend-returns-in-Repeat
statement_holds_no_pend-returns-in-Repeat t c =
    let is = repeat_at c.args.stmt.now c.in-Repeat._variable c.in-Repeat._first c.in-Repeat._last c.in-Repeat.turn
    c.deref-in-Repeat.result.now c.in-Repeat.is c.deref-in-Repeat.ensures.value in
    rw is c.holds_no_pend-in-Repeat.ensures

pub statement_holds_no_pend-returns-in-Locked : goal.statement_holds_no_pend-returns-in-Locked
statement_holds_no_pend-returns-in-Locked t c =
    let is = locked_at c.args.stmt.now c.in-Locked._resource c.in-Locked.inner c.in-Locked._at
    c.deref-in-Locked.result.now c.in-Locked.is c.deref-in-Locked.ensures.value in
    rw is c.holds_no_pend-in-Locked.ensures
