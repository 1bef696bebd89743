-- The response times of the handlers so far.
use Rattle.std.proofs.Common.{take}
use Rattle.rt_app.specs.View.{app_of}
use Rattle.rt_respond.specs.Response.{IsResponse}
use Rattle.rt_respond.specs.Rows.{BelongEach}
use Rattle.rt_respond.proofs.response.responses_under.Given as goal

abbrev pub invariant-loop-this : goal.invariant-loop-this
invariant-loop-this l =
    BelongEach (IsResponse (app_of l.app) l.limits) (take l.this-index l.handlers) l.all.items
