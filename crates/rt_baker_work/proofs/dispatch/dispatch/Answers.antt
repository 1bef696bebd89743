use Rattle.std.proofs.Common.{length, refl, arith}
use Rattle.rt_lemmas.proofs.Lists.{none_by_length}
use Rattle.rt_app.specs.View.{app_of}
use Rattle.rt_baker_work.proofs.Beginning.{empty_by_length, none_ready, oldest_ready}
use Rattle.rt_baker_work.proofs.Weights.{pushed_light}
use Rattle.rt_baker_work.proofs.dispatch.dispatch.Goals as goal

pub returns-in_ok-push-in-None-clause-same : goal.returns-in_ok-push-in-None-clause-same
returns-in_ok-push-in-None-clause-same c =
    none_ready (app_of c.args.code.now.app.now) c.args.level c.ready.result.now c.args.work.now c.push.new.self
    c.args.store.now c.ready.ensures (none_by_length c.ready.result.now c.in-None.ensures.cases)
    c.in_ok-push-in-None.ensures

pub returns-in_ok-start-in-Some-clause-same : goal.returns-in_ok-start-in-Some-clause-same
returns-in_ok-start-in-Some-clause-same c =
    oldest_ready (app_of c.args.code.now.app.now) c.args.level c.ready.result.now c.in-Some.oldest.now
    c.in-Some.rest.now c.args.work.now c.start.new.work c.args.store.now c.ready.ensures
    c.in-Some.ensures.cases.0 (c.in_ok-start-in-Some.ensures.same c.in-Some.rest.now (empty_by_length
    c.in-Some.rest.now
    (length c.in-Some.rest.now) refl))

pub returns-in_ok-push-in-None-clause-lighter : goal.returns-in_ok-push-in-None-clause-lighter
returns-in_ok-push-in-None-clause-lighter c =
    omega (
      arith,
      pushed_light (app_of c.args.code.now.app.now) c.args.work.now c.push.new.self _ 0
          c.in_ok-push-in-None.ensures refl,
    )

pub returns-in_ok-start-in-Some-clause-lighter : goal.returns-in_ok-start-in-Some-clause-lighter
returns-in_ok-start-in-Some-clause-lighter c =
    c.in_ok-start-in-Some.ensures.lighter
