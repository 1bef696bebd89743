use Rattle.std.proofs.Common.{refl, ap, arith}
use Rattle.rt_app.specs.Tree as tree
use Rattle.rt_app.specs.View.{expression_of, spawn_of, value_of, statement_of, block_of, app_of}
use Rattle.rt_baker_work.specs.Inside.Weights.{statement_weight}
use Rattle.rt_frames.proofs.Views.{branch_at, repeat_at, locked_at}
use Rattle.rt_baker_work.proofs.Statements.{value_told, chosen, loop_begun, lock_begun, lock_takes, emitted, pended}
use Rattle.rt_baker_work.proofs.Weights.{pushed_light, statement_light, chosen_light, turns_light, lock_light}
use Rattle.rt_baker_work.proofs.statement.statement.Goals as goal

pub returns-in_ok-branch-in-Branch-clause-same : goal.returns-in_ok-branch-in-Branch-clause-same
returns-in_ok-branch-in-Branch-clause-same c =
    chosen (app_of c.args.code.now.app.now) (statement_of c.args.stmt.now) (expression_of c.in-Branch.condition)
    c.value-chosen.result c.as_slice.result c.as_slice-in-Branch.result c.args.work.now c.branch-chosen.new.work
    c.args.store.now
    (branch_at c.args.stmt.now c.in-Branch.condition c.in-Branch.first c.in-Branch.second c.as_slice.result.now
    c.as_slice-in-Branch.result.now c.in-Branch.is c.as_slice.ensures.value c.as_slice-in-Branch.ensures.value)
    (value_told c.vars-in-Branch.result.now c.args.work.now.vars c.args.store.now (expression_of
    c.in-Branch.condition) c.value-chosen.result c.vars-in-Branch.ensures c.value-chosen.ensures)
    c.in_ok-branch-in-Branch.ensures

pub returns-in_ok-push-in-Repeat-clause-same : goal.returns-in_ok-push-in-Repeat-clause-same
returns-in_ok-push-in-Repeat-clause-same c =
    loop_begun (app_of c.args.code.now.app.now) (statement_of c.args.stmt.now) c.in-Repeat.variable
    c.in-Repeat.first c.in-Repeat.last c.as_slice-in-Repeat.result c.args.work.now c.push.new.self
    c.args.store.now
    (repeat_at c.args.stmt.now c.in-Repeat.variable c.in-Repeat.first c.in-Repeat.last c.in-Repeat.stmts
    c.as_slice-in-Repeat.result.now c.in-Repeat.is c.as_slice-in-Repeat.ensures.value)
    c.in_ok-push-in-Repeat.ensures

pub returns-in_ok-lock-in-Locked-clause-same : goal.returns-in_ok-lock-in-Locked-clause-same
returns-in_ok-lock-in-Locked-clause-same c =
    let app = app_of c.args.code.now.app.now in
    let is = locked_at c.args.stmt.now c.in-Locked.resource c.in-Locked.inner c.in-Locked._at
    c.as_slice-in-Locked.result.now c.in-Locked.is c.as_slice-in-Locked.ensures.value in
    lock_begun app (statement_of c.args.stmt.now) c.in-Locked.resource c.in-Locked._at c.statement.result
    c.as_slice-in-Locked.result c.args.work.now c.lock.new.work c.args.store.now is
    (lock_takes app c.args.code.now.measure (statement_of c.args.stmt.now) c.in-Locked.resource c.in-Locked._at
    c.statement.result (block_of c.as_slice-in-Locked.result.now) c.requires.measured is c.statement.ensures)
    c.in_ok-lock-in-Locked.ensures

pub returns-in_ok-push-in-Emit-clause-same : goal.returns-in_ok-push-in-Emit-clause-same
returns-in_ok-push-in-Emit-clause-same c =
    emitted (app_of c.args.code.now.app.now) (statement_of c.args.stmt.now) (expression_of c.in-Emit.expr)
    c.value-emitted.result c.args.work.now c.push-in-Emit.new.self c.args.store.now (ap statement_of
    c.in-Emit.is)
    (value_told c.vars-in-Emit.result.now c.args.work.now.vars c.args.store.now (expression_of c.in-Emit.expr)
    c.value-emitted.result c.vars-in-Emit.ensures c.value-emitted.ensures) c.in_ok-push-in-Emit.ensures

pub returns-in_ok-push-in-Pend-clause-same : goal.returns-in_ok-push-in-Pend-clause-same
returns-in_ok-push-in-Pend-clause-same c =
    pended (app_of c.args.code.now.app.now) (statement_of c.args.stmt.now) c.in-Pend.irq c.number.result
    c.args.work.now c.push-in-Pend.new.self c.args.store.now (ap statement_of c.in-Pend.is) c.number.ensures
    c.in_ok-push-in-Pend.ensures

pub returns-in_ok-bind-in-Bind-clause-lighter : goal.returns-in_ok-bind-in-Bind-clause-lighter
returns-in_ok-bind-in-Bind-clause-lighter c =
    statement_light (app_of c.args.code.now.app.now) (statement_of c.args.stmt.now) (tree.Bind c.in-Bind.variable
    (value_of c.in-Bind.bound)) c.args.work.now c.bind.new.work (ap statement_of c.in-Bind.is)
    c.in_ok-bind-in-Bind.ensures.lighter

pub returns-in-Assign-clause-lighter : goal.returns-in-Assign-clause-lighter
returns-in-Assign-clause-lighter c =
    statement_light (app_of c.args.code.now.app.now) (statement_of c.args.stmt.now) (tree.Assign c.in-Assign.atom
    (expression_of c.in-Assign.expr) c.in-Assign._at) c.args.work.now c.assign.new.work (ap statement_of
    c.in-Assign.is) (omega (arith, c.assign.ensures.lighter))

pub returns-in_ok-branch-in-Branch-clause-lighter : goal.returns-in_ok-branch-in-Branch-clause-lighter
returns-in_ok-branch-in-Branch-clause-lighter c =
    chosen_light (app_of c.args.code.now.app.now) (statement_of c.args.stmt.now) (expression_of c.in-Branch.condition)
    c.value-chosen.result c.as_slice.result c.as_slice-in-Branch.result c.args.work.now c.branch-chosen.new.work
    (branch_at c.args.stmt.now c.in-Branch.condition c.in-Branch.first c.in-Branch.second c.as_slice.result.now
    c.as_slice-in-Branch.result.now c.in-Branch.is c.as_slice.ensures.value c.as_slice-in-Branch.ensures.value)
    c.in_ok-branch-in-Branch.ensures

pub returns-in_ok-push-in-Repeat-clause-lighter : goal.returns-in_ok-push-in-Repeat-clause-lighter
returns-in_ok-push-in-Repeat-clause-lighter c =
    turns_light (app_of c.args.code.now.app.now) (statement_of c.args.stmt.now) c.in-Repeat.variable
    c.in-Repeat.first c.in-Repeat.last c.as_slice-in-Repeat.result c.args.work.now c.push.new.self
    (ap statement_weight (repeat_at c.args.stmt.now c.in-Repeat.variable c.in-Repeat.first c.in-Repeat.last
    c.in-Repeat.stmts c.as_slice-in-Repeat.result.now c.in-Repeat.is c.as_slice-in-Repeat.ensures.value))
    c.in_ok-push-in-Repeat.ensures

pub returns-in_ok-lock-in-Locked-clause-lighter : goal.returns-in_ok-lock-in-Locked-clause-lighter
returns-in_ok-lock-in-Locked-clause-lighter c =
    lock_light (app_of c.args.code.now.app.now) (statement_of c.args.stmt.now) c.in-Locked.resource c.in-Locked._at
    c.statement.result c.as_slice-in-Locked.result c.args.work.now c.lock.new.work
    (locked_at c.args.stmt.now c.in-Locked.resource c.in-Locked.inner c.in-Locked._at
    c.as_slice-in-Locked.result.now c.in-Locked.is c.as_slice-in-Locked.ensures.value)
    c.in_ok-lock-in-Locked.ensures

pub returns-in_ok-push-in-Emit-clause-lighter : goal.returns-in_ok-push-in-Emit-clause-lighter
returns-in_ok-push-in-Emit-clause-lighter c =
    statement_light (app_of c.args.code.now.app.now) (statement_of c.args.stmt.now) (tree.Emit (expression_of
    c.in-Emit.expr)) c.args.work.now c.push-in-Emit.new.self (ap statement_of c.in-Emit.is)
    (pushed_light (app_of c.args.code.now.app.now) c.args.work.now c.push-in-Emit.new.self _ 0
    c.in_ok-push-in-Emit.ensures refl)

pub returns-in_ok-push-in-Pend-clause-lighter : goal.returns-in_ok-push-in-Pend-clause-lighter
returns-in_ok-push-in-Pend-clause-lighter c =
    statement_light (app_of c.args.code.now.app.now) (statement_of c.args.stmt.now) (tree.Pend c.in-Pend.irq)
    c.args.work.now c.push-in-Pend.new.self (ap statement_of c.in-Pend.is)
    (pushed_light (app_of c.args.code.now.app.now) c.args.work.now c.push-in-Pend.new.self _ 0
    c.in_ok-push-in-Pend.ensures refl)

pub returns-in_ok-spawn-in-Call-clause-lighter : goal.returns-in_ok-spawn-in-Call-clause-lighter
returns-in_ok-spawn-in-Call-clause-lighter c =
    statement_light (app_of c.args.code.now.app.now) (statement_of c.args.stmt.now) (tree.Spawns (spawn_of
    c.in-Call.call)) c.args.work.now c.spawn.new.work (ap statement_of c.in-Call.is)
    c.in_ok-spawn-in-Call.ensures.lighter
