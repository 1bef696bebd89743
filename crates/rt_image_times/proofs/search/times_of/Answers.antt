use Rattle.std.proofs.Common.{subst}
use Rattle.rt_image_times.specs.Response.{IsTimeOf}
use Rattle.rt_image_times.proofs.Loads.{times_next}
use Rattle.rt_image_times.proofs.search.times_of.Goals as goal

pub loop-wait-preserved : goal.loop-wait-preserved
loop-wait-preserved c =
    times_next c.args.image.now c.args.limits.now c.args.handlers.now c.args.waits.now c.loop-wait.wait-index
    c.wait-item.result c.loop-wait.rows.items c.push.new.self.items c.in_ok-row.row c.loop-wait-test.true
    c.loop-wait.invariant
    (subst (λ wait. IsTimeOf c.args.image.now c.args.limits.now c.args.handlers.now wait c.in_ok-row.row) c.wait-item.is
    c.in_ok-row.ensures)
    c.in_ok-push.ensures.items
