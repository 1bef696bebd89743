use Rattle.rt_baker_work.proofs.Clocks.{time_armed}
use Rattle.rt_baker_work.proofs.clock.arm.Goals as goal

pub returns : goal.returns
returns c =
    λ app s.
    time_armed app c.args.delay c.args.message c.instant_after-instant.result c.args.time c.args.work.now
    c.push.new.self
    c.instant_after-instant.ensures c.in_ok-push.ensures s
