use Rattle.std.proofs.Common.{set, arith}
use Rattle.rt_app.specs.View.{app_of}
use Rattle.rt_baker_work.proofs.Statements.{assigned_variable, assigned_shared, assigned_local}
use Rattle.rt_baker_work.proofs.Stores.{timed_beside_shared, timed_beside_local}
use Rattle.rt_baker_work.proofs.Weights.{same_weight}
use Rattle.rt_baker_work.proofs.statement.assign.Goals as goal

pub returns-in-Var-clause-same : goal.returns-in-Var-clause-same
returns-in-Var-clause-same c =
    assigned_variable (app_of c.args.app.now) c.args.atom c.args.value c.in-Var.variable c.args.work.now
    c.set.new.self c.args.store.now c.in-Var.is c.set.ensures

pub returns-in-Shared-clause-same : goal.returns-in-Shared-clause-same
returns-in-Shared-clause-same c =
    assigned_shared (app_of c.args.app.now) c.args.atom c.args.value c.in-Shared.resource c.args.work.now
    c.args.store.now c.set_shared.new.self c.in-Shared.is c.set_shared.ensures

pub returns-in-Local-clause-same : goal.returns-in-Local-clause-same
returns-in-Local-clause-same c =
    assigned_local (app_of c.args.app.now) c.args.atom c.args.value c.in-Local.local c.args.work.now
    c.args.store.now c.set_local.new.self c.in-Local.is c.set_local.ensures

pub returns-in-Var-clause-lighter : goal.returns-in-Var-clause-lighter
returns-in-Var-clause-lighter c =
    omega (
      arith,
      same_weight (app_of c.args.app.now) c.args.work.now c.set.new.self (set c.args.work.now.vars
          c.in-Var.variable c.args.value) c.set.ensures,
    )

pub returns-in-Shared-clause-counts : goal.returns-in-Shared-clause-counts
returns-in-Shared-clause-counts c =
    timed_beside_shared c.args.store.now c.set_shared.new.self c.in-Shared.resource c.args.value c.set_shared.ensures

pub returns-in-Local-clause-counts : goal.returns-in-Local-clause-counts
returns-in-Local-clause-counts c =
    timed_beside_local c.args.store.now c.set_local.new.self c.in-Local.local c.args.value c.set_local.ensures
