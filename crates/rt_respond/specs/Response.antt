-- The response time of a handler: the length of its busy period, the least time in which there is room for what holds
-- it off and for all that is asked for at it (Joseph and Pandya, Finding Response Times in a Real-Time System, 1986;
-- Lehoczky, Fixed Priority Scheduling of Periodic Task Sets with Arbitrary Deadlines, 1990; Audsley, Burns, Richardson,
-- Tindell and Wellings, Applying New Scheduling Theory to Static Priority Pre-emptive Scheduling, 1993). Busy periods
-- begin where nothing at the handler is left, or with the end of `init`, where no lower job holds it off yet. The code
-- goes from 1 upwards by the right side; here it is a least number.
use Rattle.std.specs.Prelude.{◌≡◌, ℕ, ◌≤◌, List, map, find, Option, Some, None, IsSome, if◌then◌else◌, ◌==◌}
use Rattle.rt_app.specs.Tree.{App}
use Rattle.rt_rta.specs.Response.{most_requests}
use Rattle.rt_rta.specs.declared.limits.Limit.{Limit}
use Rattle.rt_rta.specs.declared.response.TheConstants.{MOST_STEPS}
use Rattle.rt_respond.specs.Number.{plus, greater_of, times, total_of}
use Rattle.rt_respond.specs.Handlers.{handlers, is_at}
use Rattle.rt_respond.specs.Work.{work, start}
use Rattle.rt_respond.specs.Blocking.{blocking}
use Rattle.rt_respond.specs.declared.handler.Quantity.{Quantity}
use Rattle.rt_respond.specs.declared.handler.Quantity.TheVariants as counted
use Rattle.rt_respond.specs.declared.handler.Handler.{Handler}
use Rattle.rt_respond.specs.declared.response.Response.{Response}
use Rattle.rt_respond.specs.declared.response.Response.TheVariants as response

module _ (app : App) (limits : List Limit) (what : Quantity) (i : Handler) where
  -- what so many requests of a handler ask for, where there is one and it is at this one
  abbrev pub requests_ask : ℕ → Option Handler → Option ℕ
  requests_ask n None = Some 0
  requests_ask n (Some h) = if is_at i h then times n (work app what i h) else Some 0

  -- what the requests under one limit ask for in so many core steps
  abbrev pub limit_demand : ℕ → Limit → Option ℕ
  limit_demand steps limit =
      requests_ask (most_requests steps limit.every) (find (λ h. h.number == limit.irq) (handlers app))

  -- what all requests ask for in so many core steps
  abbrev pub demand : ℕ → Option ℕ
  demand steps = total_of (map (limit_demand steps) limits)

  -- what a busy period begins with
  abbrev pub backlog : Option ℕ
  backlog = greater_of (blocking app what i) (start app what i)

  -- all that there is to be room for in so many core steps
  abbrev pub needed : ℕ → Option ℕ
  needed steps = plus backlog (demand steps)

module _ (app : App) (limits : List Limit) (i : Handler) where
  -- the recurrence of response-time analysis as an inequality: there is room in so many core steps
  pub record Suffices (steps : ℕ) : Type 0 where
    pub some : 1 ≤ steps
    pub need : ℕ
    pub needs : needed app limits counted.Steps i steps ≡ Some need
    pub covers : need ≤ steps

  -- the response time: the least number of core steps that suffices; none where a release comes back to itself, so that
  -- nothing is asked for in numbers, and none where no number up to a million suffices
  abbrev pub IsResponse : Response → Type 0
  IsResponse (response.Steps least) =
      Suffices least × (least ≤ MOST_STEPS) × ((steps : ℕ) → Suffices steps → least ≤ steps)
  IsResponse response.Cycle = needed app limits counted.Steps i 1 ≡ None
  IsResponse response.Over =
      IsSome (needed app limits counted.Steps i 1) × ((steps : ℕ) → steps ≤ MOST_STEPS → ¬ Suffices steps)
