use Rattle.std.proofs.Common.{refl, arith}
use Rattle.rt_baker_work.proofs.Pushing.{missed}
use Rattle.rt_baker_work.proofs.Weights.{pushed_light}
use Rattle.rt_baker_work.proofs.handles.miss.Goals as goal

pub returns-clause-same : goal.returns-clause-same
returns-clause-same c = λ app.
    missed app c.args.variable c.args.work.now c.tell.new.work c.push.new.self (c.in_ok-tell.ensures.same app)
    c.in_ok-push.ensures

pub returns-clause-lighter : goal.returns-clause-lighter
returns-clause-lighter c =
    λ app.
    omega (
      arith,
      c.in_ok-tell.ensures.lighter app,
      pushed_light app c.tell.new.work c.push.new.self _ 0 c.in_ok-push.ensures refl,
    )
