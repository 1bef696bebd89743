use Rattle.rt_baker_work.proofs.Clocks.{time_moved}
use Rattle.rt_baker_work.proofs.clock.put_off.Goals as goal

pub returns : goal.returns
returns c =
    λ app s.
    time_moved app c.args.delay c.args.task c.args.handle c.instant_after-instant.result c.args.time c.args.work.now
    c.push.new.self c.instant_after-instant.ensures c.in_ok-push.ensures s
