use Rattle.std.proofs.Common.{ap, refl, subst, sym, ◌+◌, ◌∷◌, ◌∙◌, arith}
use Rattle.rt_app.specs.View.{statement_of, block_of, app_of}
use Rattle.rt_frames.proofs.Views.{branch_at, repeat_at, locked_at}
use Rattle.rt_frames.proofs.Waits.{block_wait_more, locked_below}
use Rattle.rt_frames.proofs.Reaching.{shared_there, statement_reached, statement_within}
use Rattle.rt_frames.specs.Inside.Reached.{IsStatementReached}
use Rattle.rt_app.specs.Limits.{statements_in}
use Rattle.rt_app.specs.Variables.{variables}
use Rattle.rt_frames.proofs.waiting.+block.Goals as goal

pub block_wait-loop-stmt-preserved : goal.block_wait-loop-stmt-preserved
block_wait-loop-stmt-preserved t c =
    omega (
      arith,
      block_wait_more (app_of c.args.app.now) c.args.measure.now c.args.ceilings.now c.args.priority
          c.args.stmts.now c.loop-stmt.stmt-index c.stmt-item.result c.loop-stmt-test.true c.stmt-item.is,
    )

pub statement_wait-returns-in-Branch : goal.statement_wait-returns-in-Branch
statement_wait-returns-in-Branch t c =
    let is = branch_at c.args.stmt.now c.in-Branch._condition c.in-Branch.first c.in-Branch.second c.deref.result.now
    c.deref-in-Branch.result.now c.in-Branch.is c.deref.ensures.value c.deref-in-Branch.ensures.value in
    rw is (omega arith)

pub statement_wait-returns-in-Repeat : goal.statement_wait-returns-in-Repeat
statement_wait-returns-in-Repeat t c =
    let is = repeat_at c.args.stmt.now c.in-Repeat._variable c.in-Repeat._first c.in-Repeat._last c.in-Repeat.turn
    c.deref-in-Repeat.result.now c.in-Repeat.is c.deref-in-Repeat.ensures.value in
    rw is c.block_wait-in-Repeat.ensures

pub statement_wait-returns-else-priority-shared_ceiling :
    goal.statement_wait-returns-else-priority-shared_ceiling
statement_wait-returns-else-priority-shared_ceiling t c =
    let is = locked_at c.args.stmt.now c.in-Locked.resource c.in-Locked.inner c.in-Locked._at
    c.deref-else-priority-shared_ceiling.result.now c.in-Locked.is
    c.deref-else-priority-shared_ceiling.ensures.value in
    c.block_wait-else-priority-shared_ceiling.ensures
    ∙ sym (locked_below (app_of c.args.app.now) c.args.measure.now c.args.ceilings.now c.args.priority
    (statement_of c.args.stmt.now) c.in-Locked.resource (block_of c.deref-else-priority-shared_ceiling.result.now)
    c.in-Locked._at c.shared_ceiling.result is
    c.shared_ceiling.ensures c.if-priority-shared_ceiling.false)

pub block_wait-statement_wait-requires : goal.block_wait-statement_wait-requires
block_wait-statement_wait-requires t c =
    let reached = statement_reached (app_of c.args.app.now) c.args.stmts.now c.loop-stmt.stmt-index c.stmt-item.result
    c.requires.reached c.loop-stmt-test.true c.stmt-item.is in
    let few =
    statement_within c.args.stmts.now c.loop-stmt.stmt-index c.stmt-item.result c.loop-stmt-test.true c.stmt-item.is in
    (omega (arith, c.decreases), (c.requires.ceilings, reached))

pub statement_wait-block_wait-wait-requires : goal.statement_wait-block_wait-wait-requires
statement_wait-block_wait-wait-requires t c =
    let is = branch_at c.args.stmt.now c.in-Branch._condition c.in-Branch.first c.in-Branch.second c.deref.result.now
    c.in-Branch.second.items c.in-Branch.is c.deref.ensures.value refl in
    let h = subst (IsStatementReached (app_of c.args.app.now)) is c.requires.reached in
    let size = ap statements_in is in
    (omega (arith, c.decreases), (c.requires.ceilings, (h.0, h.1, h.2, h.3, h.4.1)))

pub statement_wait-block_wait-requires : goal.statement_wait-block_wait-requires
statement_wait-block_wait-requires t c =
    let is = branch_at c.args.stmt.now c.in-Branch._condition c.in-Branch.first c.in-Branch.second c.deref.result.now
    c.deref-in-Branch.result.now c.in-Branch.is c.deref.ensures.value c.deref-in-Branch.ensures.value in
    let h = subst (IsStatementReached (app_of c.args.app.now)) is c.requires.reached in
    let size = ap statements_in is in
    let before = h.1 + variables (block_of c.deref.result.now) in
    (omega (arith, c.decreases), (c.requires.ceilings, (h.0, before, h.2, h.3, h.4.2)))

pub statement_wait-block_wait-requires-in-Repeat : goal.statement_wait-block_wait-requires-in-Repeat
statement_wait-block_wait-requires-in-Repeat t c =
    let is = repeat_at c.args.stmt.now c.in-Repeat._variable c.in-Repeat._first c.in-Repeat._last c.in-Repeat.turn
    c.deref-in-Repeat.result.now c.in-Repeat.is c.deref-in-Repeat.ensures.value in
    let h = subst (IsStatementReached (app_of c.args.app.now)) is c.requires.reached in
    let size = ap statements_in is in
    (omega (arith, c.decreases), (c.requires.ceilings, (h.0, h.1 + 1, h.2, c.in-Repeat._variable ∷ h.3, h.4.4)))

pub statement_wait-shared_ceiling-requires : goal.statement_wait-shared_ceiling-requires
statement_wait-shared_ceiling-requires t c =
    let is = locked_at c.args.stmt.now c.in-Locked.resource c.in-Locked.inner c.in-Locked._at c.in-Locked.inner.items
    c.in-Locked.is refl in
    let h = subst (IsStatementReached (app_of c.args.app.now)) is c.requires.reached in
    shared_there (app_of c.args.app.now) c.args.ceilings.now c.requires.ceilings c.in-Locked.resource h.4.0.is_there

pub statement_wait-block_wait-requires-else-priority-shared_ceiling :
    goal.statement_wait-block_wait-requires-else-priority-shared_ceiling
statement_wait-block_wait-requires-else-priority-shared_ceiling t c =
    let is = locked_at c.args.stmt.now c.in-Locked.resource c.in-Locked.inner c.in-Locked._at
    c.deref-else-priority-shared_ceiling.result.now c.in-Locked.is
    c.deref-else-priority-shared_ceiling.ensures.value in
    let h = subst (IsStatementReached (app_of c.args.app.now)) is c.requires.reached in
    let size = ap statements_in is in
    (omega (arith, c.decreases), (c.requires.ceilings, (h.0, h.1, c.in-Locked.resource ∷ h.2, h.3, h.4.1)))
