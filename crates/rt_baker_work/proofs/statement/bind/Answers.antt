use Rattle.std.proofs.Common.{set, refl, ap, arith}
use Rattle.rt_app.specs.View.{expression_of, spawn_of, value_of, app_of}
use Rattle.rt_baker_work.proofs.Statements.{value_told, bound_calc, bound_now, bound_call}
use Rattle.rt_baker_work.proofs.Weights.{pushed_light, same_weight}
use Rattle.rt_baker_work.proofs.statement.bind.Goals as goal

pub returns-in-Calc-clause-same : goal.returns-in-Calc-clause-same
returns-in-Calc-clause-same c =
    bound_calc (app_of c.args.code.now.app.now) c.args.variable (value_of c.args.bound.now) (expression_of
    c.in-Calc.expr) c.value-number.result c.args.work.now c.set.new.self c.args.store.now (ap value_of
    c.in-Calc.is)
    (value_told c.vars.result.now c.args.work.now.vars c.args.store.now (expression_of c.in-Calc.expr)
    c.value-number.result c.vars.ensures c.value-number.ensures) c.set.ensures

pub returns-in_ok-push-in-Now-clause-same : goal.returns-in_ok-push-in-Now-clause-same
returns-in_ok-push-in-Now-clause-same c =
    bound_now (app_of c.args.code.now.app.now) c.args.variable (value_of c.args.bound.now) c.in-Now._at
    c.args.work.now c.push.new.self c.args.store.now (ap value_of c.in-Now.is) c.in_ok-push-in-Now.ensures

pub returns-in_ok-spawn-in-Call-clause-same : goal.returns-in_ok-spawn-in-Call-clause-same
returns-in_ok-spawn-in-Call-clause-same c =
    bound_call (app_of c.args.code.now.app.now) c.args.variable (value_of c.args.bound.now) (spawn_of
    c.in-Call.call) c.args.work.now c.spawn.new.work c.args.store.now (ap value_of c.in-Call.is)
    c.in_ok-spawn-in-Call.ensures.same

pub returns-in-Calc-clause-lighter : goal.returns-in-Calc-clause-lighter
returns-in-Calc-clause-lighter c =
    omega (
      arith,
      same_weight (app_of c.args.code.now.app.now) c.args.work.now c.set.new.self (set c.args.work.now.vars
          c.args.variable c.value-number.result) c.set.ensures,
    )

pub returns-in_ok-push-in-Now-clause-lighter : goal.returns-in_ok-push-in-Now-clause-lighter
returns-in_ok-push-in-Now-clause-lighter c =
    omega (
      arith,
      pushed_light (app_of c.args.code.now.app.now) c.args.work.now c.push.new.self _ 0
          c.in_ok-push-in-Now.ensures refl,
    )

pub returns-in_ok-spawn-in-Call-clause-lighter : goal.returns-in_ok-spawn-in-Call-clause-lighter
returns-in_ok-spawn-in-Call-clause-lighter c =
    c.in_ok-spawn-in-Call.ensures.lighter
