use Rattle.std.proofs.Common.{arith}
use Rattle.rt_app.specs.View.{app_of}
use Rattle.rt_baker_work.proofs.Pushing.{sent_soon, sent_after}
use Rattle.rt_baker_work.proofs.sending.send.Goals as goal

pub returns-in_ok-make_ready-in-None-clause-same : goal.returns-in_ok-make_ready-in-None-clause-same
returns-in_ok-make_ready-in-None-clause-same c =
    sent_soon (app_of c.args.code.now.app.now) c.args.variable c.args.delay c.args.message c.args.work.now
    c.tell.new.work c.make_ready.new.work c.in-None.is (c.in_ok-tell-in-None.ensures.same (app_of
    c.args.code.now.app.now)) c.in_ok-make_ready-in-None.ensures.same

pub returns-in_ok-arm-in-Some-clause-same : goal.returns-in_ok-arm-in-Some-clause-same
returns-in_ok-arm-in-Some-clause-same c =
    sent_after (app_of c.args.code.now.app.now) c.args.variable c.args.delay c.in-Some.ticks c.args.message
    c.args.work.now c.arm.new.work c.in-Some.is c.in_ok-arm-in-Some.ensures.same

pub returns-in_ok-make_ready-in-None-clause-lighter : goal.returns-in_ok-make_ready-in-None-clause-lighter
returns-in_ok-make_ready-in-None-clause-lighter c =
    omega (
      arith,
      c.in_ok-tell-in-None.ensures.lighter (app_of c.args.code.now.app.now),
      c.in_ok-make_ready-in-None.ensures.lighter,
    )

pub returns-in_ok-arm-in-Some-clause-lighter : goal.returns-in_ok-arm-in-Some-clause-lighter
returns-in_ok-arm-in-Some-clause-lighter c =
    c.in_ok-arm-in-Some.ensures.lighter
