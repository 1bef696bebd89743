-- The rows of the handlers so far.
use Rattle.std.proofs.Common.{take}
use Rattle.rt_app.specs.View.{app_of}
use Rattle.rt_respond.specs.Report.{IsServed}
use Rattle.rt_respond.specs.Rows.{BelongEach}
use Rattle.rt_respond.proofs.report.served_under.Given as goal

abbrev pub invariant-loop-index : goal.invariant-loop-index
invariant-loop-index l = BelongEach (IsServed (app_of l.app) l.limits) (take l.index l.handlers) l.rows.items
