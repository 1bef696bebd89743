use Rattle.std.proofs.Common.{refl}
use Rattle.rt_baker_work.proofs.Pushing.{handed_none, handed_some}
use Rattle.rt_baker_work.proofs.Weights.{pushed_light}
use Rattle.rt_baker_work.proofs.sending.tell_handle.Goals as goal

pub returns-in-None-clause-same : goal.returns-in-None-clause-same
returns-in-None-clause-same c = handed_none c.args.variable c.args.work.now c.in-None.is

pub returns-in_ok-push-in-Some-clause-same : goal.returns-in_ok-push-in-Some-clause-same
returns-in_ok-push-in-Some-clause-same c = handed_some c.args.variable c.in-Some.variable c.args.work.now
    c.push.new.self c.in-Some.is c.in_ok-push-in-Some.ensures

pub returns-in_ok-push-in-Some-clause-lighter : goal.returns-in_ok-push-in-Some-clause-lighter
returns-in_ok-push-in-Some-clause-lighter c =
    λ app. pushed_light app c.args.work.now c.push.new.self _ 1 c.in_ok-push-in-Some.ensures refl
