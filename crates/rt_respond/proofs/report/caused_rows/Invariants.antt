-- The rows of the limits so far.
use Rattle.std.proofs.Common.{◌==◌, take, flat_map, find}
use Rattle.rt_app.specs.View.{app_of}
use Rattle.rt_respond.specs.Handlers as order
use Rattle.rt_respond.specs.Report.{pairs_from, AreCaused}
use Rattle.rt_respond.proofs.report.caused_rows.Given as goal

abbrev pub invariant-loop-limit : goal.invariant-loop-limit
invariant-loop-limit l =
    AreCaused (app_of l.app) l.limits
    (flat_map (λ limit. pairs_from (app_of l.app) l.limits (find (λ h. h.number == limit.irq)
    (order.handlers (app_of l.app)))) (take l.limit-index l.limits.every)) l.rows.items
