-- What the requests under the limits so far ask for.
use Rattle.std.proofs.Common.{◌≡◌, map, take}
use Rattle.rt_app.specs.Tree.{App}
use Rattle.rt_respond.specs.Number.{total_of}
use Rattle.rt_respond.specs.Response.{limit_demand}
use Rattle.rt_respond.specs.Inside.Searching.{IsAsked}
use Rattle.rt_respond.specs.declared.handler.Quantity.{Quantity}
use Rattle.rt_respond.proofs.response.demand.Given as goal

abbrev pub invariant-loop-limit : goal.invariant-loop-limit
invariant-loop-limit l =
    (app : App) → (what : Quantity) → IsAsked app what l.asked
    → l.sum ≡ total_of (map (limit_demand app l.asked.limits.now what l.asked.this.now l.steps)
    (take l.limit-index l.asked.limits.now))
