-- How many messages of a task have their places out at once, at most: a bound on the length of its queue, as a busy
-- period gives one of arrivals (Tindell, Burns and Wellings, Calculating Controller Area Network Message Response
-- Times, 1995, on queues). It is all that the busy period of the task's dispatcher begins with and all that is asked
-- for in it, with messages of the task counted in place of core steps.
use Rattle.std.specs.Prelude.{ℕ, List, Option, None}
use Rattle.rt_app.specs.Tree.{App}
use Rattle.rt_rta.specs.declared.limits.Limit.{Limit}
use Rattle.rt_respond.specs.Response.{needed}
use Rattle.rt_respond.specs.declared.handler.Quantity.TheVariants as counted
use Rattle.rt_respond.specs.declared.handler.Handler.{Handler}
use Rattle.rt_respond.specs.declared.response.Response.{Response}
use Rattle.rt_respond.specs.declared.response.Response.TheVariants as response

-- how many messages of a dispatcher's task are out in a busy period of so many core steps
abbrev pub messages_within : App → List Limit → Handler → ℕ → Option ℕ
messages_within app limits i steps = needed app limits (counted.Messages i.task) i steps

-- the room that the task of a dispatcher needs, by the dispatcher's response time; none where there is no such time
abbrev pub room : App → List Limit → Handler → Response → Option ℕ
room app limits i (response.Steps steps) = messages_within app limits i steps
room app limits i response.Cycle = None
room app limits i response.Over = None
