use Rattle.std.proofs.Common.{refl, sym, ap, ◌∙◌, ◌||◌}
use Rattle.rt_lemmas.proofs.Bools.{or_left}
use Rattle.rt_app.specs.View.{block_of}
use Rattle.rt_frames.proofs.Views.{branch_at, repeat_at, locked_at}
use Rattle.rt_respond.specs.Pends.{block_pends}
use Rattle.rt_respond.proofs.Pending.{none_more, pends_at}
use Rattle.rt_respond.proofs.pend.+block.Goals as goal

pub block_pends-returns-then-statement_pends : goal.block_pends-returns-then-statement_pends
block_pends-returns-then-statement_pends t c =
    sym (pends_at c.args.irq c.args.stmts.now c.loop-stmt.stmt-index c.stmt-item.result c.loop-stmt-test.true
    c.stmt-item.is (sym c.statement_pends.ensures ∙ c.if-statement_pends.true))

pub block_pends-loop-stmt-preserved : goal.block_pends-loop-stmt-preserved
block_pends-loop-stmt-preserved t c =
    none_more c.args.irq c.args.stmts.now c.loop-stmt.stmt-index c.stmt-item.result c.loop-stmt-test.true
    c.stmt-item.is c.loop-stmt.invariant (sym c.statement_pends.ensures ∙ c.if-statement_pends.false)

pub statement_pends-returns-then-block_pends : goal.statement_pends-returns-then-block_pends
statement_pends-returns-then-block_pends t c =
    let is = branch_at c.args.stmt.now c.in-Branch._condition c.in-Branch.first c.in-Branch.second c.deref.result.now
    c.in-Branch.second.items c.in-Branch.is c.deref.ensures.value refl in
    rw is (c.if-block_pends.true ∙ sym (or_left (block_pends c.args.irq (block_of c.deref.result.now))
    (block_pends c.args.irq (block_of c.in-Branch.second.items))
    (sym c.block_pends.ensures ∙ c.if-block_pends.true)))

pub statement_pends-returns-else-block_pends : goal.statement_pends-returns-else-block_pends
statement_pends-returns-else-block_pends t c =
    let is = branch_at c.args.stmt.now c.in-Branch._condition c.in-Branch.first c.in-Branch.second c.deref.result.now
    c.deref-else-block_pends.result.now c.in-Branch.is c.deref.ensures.value c.deref-else-block_pends.ensures.value in
    rw is (c.block_pends-else-block_pends.ensures
    ∙ sym (ap (λ a. a || block_pends c.args.irq (block_of c.deref-else-block_pends.result.now))
    (sym c.block_pends.ensures ∙ c.if-block_pends.false)))

pub statement_pends-returns-in-Repeat : goal.statement_pends-returns-in-Repeat
statement_pends-returns-in-Repeat t c =
    let is = repeat_at c.args.stmt.now c.in-Repeat._variable c.in-Repeat._first c.in-Repeat._last c.in-Repeat.turn
    c.deref-in-Repeat.result.now c.in-Repeat.is c.deref-in-Repeat.ensures.value in
    rw is c.block_pends-in-Repeat.ensures

pub statement_pends-returns-in-Locked : goal.statement_pends-returns-in-Locked
statement_pends-returns-in-Locked t c =
    let is = locked_at c.args.stmt.now c.in-Locked._resource c.in-Locked.inner c.in-Locked._at
    c.deref-in-Locked.result.now c.in-Locked.is c.deref-in-Locked.ensures.value in
    rw is c.block_pends-in-Locked.ensures
