-- The rows of the deadlines of the handlers so far.
use Rattle.std.proofs.Common.{◌≡◌, take, flat_map}
use Rattle.rt_app.specs.Tree.{App}
use Rattle.rt_respond.specs.Handlers as order
use Rattle.rt_respond.specs.Limits.{deadline_of}
use Rattle.rt_respond.specs.Report.{IsJudged, if_judged}
use Rattle.rt_respond.specs.Response.{IsResponse}
use Rattle.rt_respond.specs.Rows.{BelongEach}
use Rattle.rt_respond.proofs.report.judged_rows.Given as goal

abbrev pub invariant-loop-index : goal.invariant-loop-index
invariant-loop-index l =
    (app : App) → l.handlers ≡ order.handlers app
    → BelongEach (IsResponse app l.limits.every) l.handlers l.responses
    → BelongEach (IsJudged app l.limits)
    (flat_map (λ h. if_judged app l.limits h (deadline_of l.limits h.task)) (take l.index l.handlers)) l.rows.items
