use Rattle.std.proofs.Common.{refl, arith}
use Rattle.rt_baker_work.proofs.Walks.{three_more}
use Rattle.rt_baker_work.proofs.Pushing.{cancel_missed, cancel_found}
use Rattle.rt_baker_work.proofs.Weights.{pushed_light}
use Rattle.rt_baker_work.proofs.handles.cancel.Goals as goal

pub returns-then-not-is_armed_as-clause-same : goal.returns-then-not-is_armed_as-clause-same
returns-then-not-is_armed_as-clause-same c = λ app.
    cancel_missed app c.args.variable c.args.task c.args.handle c.args.work.now c.miss.new.work c.args.store.now
    c.is_armed_as.result c.is_armed_as.ensures c.if-not-is_armed_as.true (c.in_ok-miss.ensures.same app)

pub returns-clause-same : goal.returns-clause-same
returns-clause-same c = λ app.
    cancel_found app c.args.variable c.args.task c.args.handle c.args.work.now c.tell.new.work c.free_place.new.work
    c.push-3.new.self c.args.store.now c.is_armed_as.result c.is_armed_as.ensures c.if-not-is_armed_as.false
    (c.in_ok-tell.ensures.same app)
    c.in_ok-free_place.ensures
    (three_more c.free_place.new.work c.push.new.self c.push-2.new.self c.push-3.new.self _ _ _ c.in_ok-push.ensures
    c.in_ok-push-2.ensures c.in_ok-push-3.ensures)

pub returns-clause-lighter : goal.returns-clause-lighter
returns-clause-lighter c =
    λ app.
    omega (
      arith,
      c.in_ok-tell.ensures.lighter app,
      pushed_light app c.tell.new.work c.free_place.new.work _ 0 c.in_ok-free_place.ensures refl,
      pushed_light app c.free_place.new.work c.push.new.self _ 0 c.in_ok-push.ensures refl,
      pushed_light app c.push.new.self c.push-2.new.self _ 0 c.in_ok-push-2.ensures refl,
      pushed_light app c.push-2.new.self c.push-3.new.self _ 0 c.in_ok-push-3.ensures refl,
    )
