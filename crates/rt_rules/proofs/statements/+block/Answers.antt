use Rattle.std.proofs.Common.{◌∷◌, ◌++◌, ◌+◌, take, refl}
use Rattle.rt_app.specs.View.{app_of, expression_of, statement_of, block_of}
use Rattle.rt_app.specs.Use.{Locks, reads, statement_uses, uses}
use Rattle.rt_rules.specs.Inside.Locked.{locked_resources}
use Rattle.rt_rules.specs.Inside.View.{member_of}
use Rattle.rt_rules.proofs.Uses.{uses_behind, uses_behind_one, branch_uses, repeat_uses, lock_uses, uses_more}
use Rattle.rt_rules.proofs.statements.+block.Goals as goal

pub judge_statement-returns-in-Branch : goal.judge_statement-returns-in-Branch
judge_statement-returns-in-Branch t c =
    let app = app_of c.args.judge.now.app.now in
    let m = member_of c.args.judge.now.member in
    let locked = locked_resources c.args.locked.now in
    let es = reads locked (expression_of c.in-Branch.condition) in
    let yes = uses locked (block_of c.deref.result.now) in
    let no = uses locked (block_of c.deref-in-Branch.result.now) in
    uses_behind app m c.args.first.now c.judge_expression-in-Branch.new.first c.judge_block-in-Branch.new.first es
    (yes ++ no) (statement_uses locked (statement_of c.args.stmt.now))
    (branch_uses locked c.args.stmt.now c.in-Branch.condition c.in-Branch.yes c.in-Branch.no c.deref.result.now
    c.deref-in-Branch.result.now c.in-Branch.is c.deref.ensures.value c.deref-in-Branch.ensures.value)
    c.judge_expression-in-Branch.ensures
    (uses_behind app m c.judge_expression-in-Branch.new.first c.judge_block.new.first c.judge_block-in-Branch.new.first
    yes no (yes ++ no) refl c.judge_block.ensures c.judge_block-in-Branch.ensures)

pub judge_statement-returns-in-Repeat : goal.judge_statement-returns-in-Repeat
judge_statement-returns-in-Repeat t c =
    rw (repeat_uses (locked_resources c.args.locked.now) c.args.stmt.now c.in-Repeat._variable c.in-Repeat._first
    c.in-Repeat._last c.in-Repeat.turn c.deref-in-Repeat.result.now c.in-Repeat.is c.deref-in-Repeat.ensures.value)
    c.judge_block-in-Repeat.ensures

pub judge_statement-returns-in-Locked : goal.judge_statement-returns-in-Locked
judge_statement-returns-in-Locked t c =
    let locked = locked_resources c.args.locked.now in
    let inner = c.deref-in-Locked.result.now in
    uses_behind_one (app_of c.args.judge.now.app.now) (member_of c.args.judge.now.member) c.args.first.now
    c.judge_lock.new.first c.judge_block-in-Locked.new.first locked (Locks c.in-Locked.resource c.in-Locked.at)
    (uses (c.in-Locked.resource ∷ locked) (block_of inner)) (statement_uses locked (statement_of c.args.stmt.now))
    (lock_uses locked c.args.stmt.now c.in-Locked.resource c.in-Locked.inner c.in-Locked.at inner c.in-Locked.is
    c.deref-in-Locked.ensures.value) c.judge_lock.ensures c.judge_block-in-Locked.ensures

pub judge_block-loop-stmt-preserved : goal.judge_block-loop-stmt-preserved
judge_block-loop-stmt-preserved t c =
    let locked = locked_resources c.args.locked.now in
    let stmts = c.args.stmts.now in
    let i = c.loop-stmt.stmt-index in
    uses_behind (app_of c.args.judge.now.app.now) (member_of c.args.judge.now.member) c.args.first.now c.loop-stmt.first
    c.judge_statement.new.first
    (uses locked (block_of (take i stmts))) (statement_uses locked (statement_of c.stmt-item.result))
    (uses locked (block_of (take (i + 1) stmts)))
    (uses_more locked stmts i c.stmt-item.result c.loop-stmt-test.true c.stmt-item.is) c.loop-stmt.invariant
    c.judge_statement.ensures
