use Rattle.std.proofs.Common.{sym, ap, ◌∙◌, ◌-◌, take}
use Rattle.rt_app.specs.View.{block_of}
use Rattle.rt_frames.proofs.Views.{branch_at, repeat_at, locked_at}
use Rattle.rt_respond.specs.Number.{plus, greater_of, times}
use Rattle.rt_respond.specs.Work.{block_sends}
use Rattle.rt_respond.specs.Inside.Works.{table_asks}
use Rattle.rt_respond.proofs.Sends.{block_sends_more}
use Rattle.rt_respond.proofs.work.+block.Goals as goal

pub block_sends-loop-stmt-preserved : goal.block_sends-loop-stmt-preserved
block_sends-loop-stmt-preserved t c =
    let pends = table_asks c.args.all.now.handlers.now c.args.all.now.works.now in
    c.plus-sum.ensures ∙ ap (λ a. plus a c.statement_sends.result) c.loop-stmt.invariant
    ∙ ap (plus (block_sends pends (block_of (take c.loop-stmt.stmt-index c.args.stmts.now))))
    c.statement_sends.ensures
    ∙ sym (block_sends_more pends c.args.stmts.now c.loop-stmt.stmt-index c.stmt-item.result c.loop-stmt-test.true
    c.stmt-item.is)

pub statement_sends-returns-in-Branch : goal.statement_sends-returns-in-Branch
statement_sends-returns-in-Branch t c =
    let pends = table_asks c.args.all.now.handlers.now c.args.all.now.works.now in
    let is = branch_at c.args.stmt.now c.in-Branch._condition c.in-Branch.first c.in-Branch.second c.deref.result.now
    c.deref-in-Branch.result.now c.in-Branch.is c.deref.ensures.value c.deref-in-Branch.ensures.value in
    rw is (c.greater_of.ensures ∙ ap (λ a. greater_of a c.block_sends-in-Branch.result) c.block_sends.ensures
    ∙ ap (greater_of (block_sends pends (block_of c.deref.result.now))) c.block_sends-in-Branch.ensures)

pub statement_sends-returns-in-Repeat : goal.statement_sends-returns-in-Repeat
statement_sends-returns-in-Repeat t c =
    let is = repeat_at c.args.stmt.now c.in-Repeat._variable c.in-Repeat.first c.in-Repeat.last c.in-Repeat.turn
    c.deref-in-Repeat.result.now c.in-Repeat.is c.deref-in-Repeat.ensures.value in
    rw is (c.times.ensures
    ∙ ap (λ n. times n c.block_sends-in-Repeat.result) (c.from.ensures ∙ c.saturating_sub.ensures)
    ∙ ap (times (c.in-Repeat.last - c.in-Repeat.first)) c.block_sends-in-Repeat.ensures)

pub statement_sends-returns-in-Locked : goal.statement_sends-returns-in-Locked
statement_sends-returns-in-Locked t c =
    let is = locked_at c.args.stmt.now c.in-Locked._resource c.in-Locked.inner c.in-Locked._at
    c.deref-in-Locked.result.now c.in-Locked.is c.deref-in-Locked.ensures.value in
    rw is c.block_sends-in-Locked.ensures
