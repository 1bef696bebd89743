use Rattle.rt_rta.proofs.Least.{times_next}
use Rattle.rt_rta.proofs.search.times_of.Goals as goal

pub loop-wait-preserved : goal.loop-wait-preserved
loop-wait-preserved c =
    times_next c.args.all.now c.args.waits.now c.loop-wait.wait-index _ c.loop-wait.rows.items c.push.new.self.items
    c.time_of.result c.loop-wait-test.true c.loop-wait.invariant c.time_of.ensures
    c.in_ok-push.ensures.items
