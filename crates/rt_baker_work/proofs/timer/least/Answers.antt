use Rattle.rt_baker_work.proofs.Timing.{none_least}
use Rattle.rt_baker_work.proofs.timer.least.Goals as goal

pub returns-in-None : goal.returns-in-None
returns-in-None c = none_least c.args.armed.now c.least_instant.result c.least_instant.ensures c.in-None.is
