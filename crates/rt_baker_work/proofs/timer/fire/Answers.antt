use Rattle.std.proofs.Common.{refl, ap, ◌∙◌, arith}
use Rattle.rt_actions.specs.Content.{Armed}
use Rattle.rt_app.specs.View.{app_of}
use Rattle.rt_baker_work.proofs.Walks.{two_more, three_more}
use Rattle.rt_baker_work.proofs.Timing.{none_due, one_due}
use Rattle.rt_baker_work.proofs.Weights.{pushed_light}
use Rattle.rt_baker_work.proofs.timer.fire.Goals as goal

pub returns-in_ok-push-in-None-2-clause-same : goal.returns-in_ok-push-in-None-2-clause-same
returns-in_ok-push-in-None-2-clause-same c =
    none_due (app_of c.args.code.now.app.now) c.args.time c.delays.result.now c.args.work.now
    c.push-in-None.new.self c.args.store.now c.delays.ensures (c.in-None.ensures (app_of
    c.args.code.now.app.now))
    (two_more c.args.work.now c.push.new.self c.push-in-None.new.self _ _ c.in_ok-push-in-None.ensures
    c.in_ok-push-in-None-2.ensures)

pub returns-in_ok-push-in-Some-3-clause-same : goal.returns-in_ok-push-in-Some-3-clause-same
returns-in_ok-push-in-Some-3-clause-same c =
    one_due (app_of c.args.code.now.app.now) c.args.time c.delays.result.now c.in-Some.first.now
    c.in_ok-fired-in-Some.fired c.in_ok-duplicate-in-Some.field-0 c.args.work.now c.make_ready.new.work
    c.push-in-Some-3.new.self
    c.args.store.now c.delays.ensures (c.in-Some.ensures (app_of c.args.code.now.app.now))
    (c.in_ok-fired-in-Some.ensures ∙ ap (λ (a : Armed). a.message) c.first.view_is)
    (c.in_ok-duplicate-in-Some.ensures ∙ ap (λ (a : Armed). a.message) c.first.view_is)
    c.in_ok-make_ready-in-Some.ensures.same
    (three_more c.make_ready.new.work c.push-in-Some.new.self c.push-in-Some-2.new.self c.push-in-Some-3.new.self _
    _ _ c.in_ok-push-in-Some.ensures c.in_ok-push-in-Some-2.ensures c.in_ok-push-in-Some-3.ensures)

pub returns-in_ok-push-in-None-2-clause-lighter : goal.returns-in_ok-push-in-None-2-clause-lighter
returns-in_ok-push-in-None-2-clause-lighter c =
    let app = app_of c.args.code.now.app.now in
    omega (
      arith,
      pushed_light app c.args.work.now c.push.new.self _ 0 c.in_ok-push-in-None.ensures refl,
      pushed_light app c.push.new.self c.push-in-None.new.self _ 0 c.in_ok-push-in-None-2.ensures refl,
    )

pub returns-in_ok-push-in-Some-3-clause-lighter : goal.returns-in_ok-push-in-Some-3-clause-lighter
returns-in_ok-push-in-Some-3-clause-lighter c =
    let app = app_of c.args.code.now.app.now in
    omega (
      arith,
      c.in_ok-make_ready-in-Some.ensures.lighter,
      pushed_light app c.make_ready.new.work c.push-in-Some.new.self _ 0 c.in_ok-push-in-Some.ensures refl,
      pushed_light app c.push-in-Some.new.self c.push-in-Some-2.new.self _ 0 c.in_ok-push-in-Some-2.ensures refl,
      pushed_light app c.push-in-Some-2.new.self c.push-in-Some-3.new.self _ 0 c.in_ok-push-in-Some-3.ensures refl,
    )
