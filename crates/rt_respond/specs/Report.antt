-- What is answered for an application under limits.
use Rattle.std.specs.Prelude.{◌≡◌, ℕ, ◌==◌, ◌⊎◌, Bool, false, not, nat_le, if◌then◌else◌, List, [], ◌∷◌, filter}
use Rattle.std.specs.Prelude.{find, flat_map, map, Option, Some, None}
use Rattle.rt_app.specs.Tree.{App}
use Rattle.rt_app.specs.Sending.{capacity_of}
use Rattle.rt_respond.specs.Limits.{Limits, every_of, deadline_of}
use Rattle.rt_respond.specs.Handlers.{handlers}
use Rattle.rt_respond.specs.Pends.{is_pended}
use Rattle.rt_respond.specs.Path.{Leads, IsLowest}
use Rattle.rt_respond.specs.Load.{IsLoad}
use Rattle.rt_respond.specs.Response.{IsResponse}
use Rattle.rt_respond.specs.Room.{room}
use Rattle.rt_respond.specs.Rows.{BelongEach}
use Rattle.rt_respond.specs.declared.handler.Handler.{Handler}
use Rattle.rt_respond.specs.declared.response.Response.{Response}
use Rattle.rt_respond.specs.declared.response.Response.TheVariants as response
use Rattle.rt_respond.specs.declared.report.Requests.{Requests}
use Rattle.rt_respond.specs.declared.report.Requests.TheVariants as requests
use Rattle.rt_respond.specs.declared.report.Served.{Served}
use Rattle.rt_respond.specs.declared.report.Caused.{Caused}
use Rattle.rt_respond.specs.declared.report.Judged.{Judged}
use Rattle.rt_respond.specs.declared.report.Report.{Report}

-- a response time is a number up to this one
abbrev pub is_within : ℕ → Response → Bool
is_within most (response.Steps steps) = nat_le steps most
is_within most response.Cycle = false
is_within most response.Over = false

-- how requests come of an interrupt that no body pends
abbrev pub outer_requests : Option ℕ → Response → Requests
outer_requests None r = requests.Never
outer_requests (Some every) r = if is_within every r then requests.Apart else requests.Merge

module _ (app : App) (limits : Limits) where
  -- how requests of a handler of this response time come; those of a dispatcher are messages
  abbrev pub requests_of : Handler → Response → Requests
  requests_of h r =
      if h.is_dispatcher then requests.Messages
      else if is_pended app h.irq then requests.Merge else outer_requests (every_of limits h.number) r

  -- the row of a handler
  pub record IsServed (h : Handler) (row : Served) : Type 0 where
    pub task : row.task ≡ h.task
    pub priority : row.priority ≡ h.priority
    pub response : IsResponse app limits.every h row.response
    pub requests : row.requests ≡ requests_of h row.response
    pub needs : row.room ≡ (if h.is_dispatcher then room app limits.every h row.response else None)
    pub capacity : row.capacity ≡ capacity_of app h.task

  -- the row of two handlers, of the first of which requests come; the response time is that of the last in the order of
  -- all on paths between them
  pub record IsCaused (from to : Handler) (row : Caused) : Type 0 where
    pub from_irq : row.from ≡ from.irq
    pub to_task : row.to ≡ to.task
    pub lowest : Handler
    pub is_lowest : IsLowest app from to lowest
    pub response : IsResponse app limits.every lowest row.response

  -- a handler and each other one
  abbrev pub pairs_from : Option Handler → List (Handler × Handler)
  pairs_from None = []
  pairs_from (Some from) = map (λ to. (from, to)) (filter (λ to. not (to.irq == from.irq)) (handlers app))

  -- for each limit on requests, its handler and each other one
  abbrev pub pairs : List (Handler × Handler)
  pairs = flat_map (λ limit. pairs_from (find (λ h. h.number == limit.irq) (handlers app))) limits.every

  -- a row for each pair between which there is a path
  abbrev pub AreCaused : List (Handler × Handler) → List Caused → Type 0
  AreCaused [] rows = rows ≡ []
  AreCaused (pair ∷ pairs) rows =
      ((¬ Leads app pair.0 pair.1) × AreCaused pairs rows)
      ⊎ ((row : Caused) × (rest : List Caused) × (rows ≡ row ∷ rest) × IsCaused pair.0 pair.1 row
      × AreCaused pairs rest)

  -- the row of a deadline
  pub record IsJudged (h : Handler) (row : Judged) : Type 0 where
    pub task : row.task ≡ h.task
    pub deadline : deadline_of limits h.task ≡ Some row.deadline
    pub response : Response
    pub is_response : IsResponse app limits.every h response
    pub is_met : row.is_met ≡ is_within row.deadline response

  -- the handlers that have deadlines, in order
  abbrev pub if_judged : Handler → Option ℕ → List Handler
  if_judged h None = []
  if_judged h (Some steps) = h ∷ []

  abbrev pub judged_handlers : List Handler
  judged_handlers = flat_map (λ h. if_judged h (deadline_of limits h.task)) (handlers app)

  -- all that is answered
  pub record IsReport (report : Report) : Type 0 where
    pub served : BelongEach IsServed (handlers app) report.served.items
    pub caused : AreCaused pairs report.caused.items
    pub load : IsLoad app limits report.load
    pub judged : BelongEach IsJudged judged_handlers report.judged.items
