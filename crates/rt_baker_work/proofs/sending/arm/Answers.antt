use Rattle.std.proofs.Common.{refl, arith}
use Rattle.rt_app.specs.View.{app_of}
use Rattle.rt_baker_work.proofs.Walks.{two_more}
use Rattle.rt_baker_work.proofs.Pushing.{armed}
use Rattle.rt_baker_work.proofs.Weights.{pushed_light}
use Rattle.rt_baker_work.proofs.sending.arm.Goals as goal

pub returns-clause-same : goal.returns-clause-same
returns-clause-same c =
    let app = app_of c.args.code.now.app.now in
    armed app c.args.variable c.args.ticks c.args.code.now.timer_section c.args.message
    c.args.work.now c.push-2.new.self c.tell_handle.new.work c.push-4.new.self c.requires.timed
    (two_more c.args.work.now c.push.new.self c.push-2.new.self _ _ c.in_ok-push.ensures c.in_ok-push-2.ensures)
    (c.in_ok-tell_handle.ensures.same app)
    (two_more c.tell_handle.new.work c.push-3.new.self c.push-4.new.self _ _ c.in_ok-push-3.ensures
    c.in_ok-push-4.ensures)

pub returns-clause-lighter : goal.returns-clause-lighter
returns-clause-lighter c =
    let app = app_of c.args.code.now.app.now in
    omega (
      arith,
      pushed_light app c.args.work.now c.push.new.self _ 0 c.in_ok-push.ensures refl,
      pushed_light app c.push.new.self c.push-2.new.self _ 0 c.in_ok-push-2.ensures refl,
      c.in_ok-tell_handle.ensures.lighter app,
      pushed_light app c.tell_handle.new.work c.push-3.new.self _ 0 c.in_ok-push-3.ensures refl,
      pushed_light app c.push-3.new.self c.push-4.new.self _ 0 c.in_ok-push-4.ensures refl,
    )
