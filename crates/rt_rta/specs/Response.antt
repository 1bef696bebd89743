-- The response time of a priority: how many core steps pass at most from a request of one of its interrupts to the
-- return of the handler. It is the least solution of the equation of response-time analysis (Joseph and Pandya, Finding
-- Response Times in a Real-Time System, 1986; Audsley, Burns, Richardson, Tindell and Wellings, 1993), with Baker's
-- bound on blocking (Stack-Based Scheduling of Realtime Processes, 1991). What is this project's own: a step of the
-- core takes the interrupt, so each handling counts one more than its cost; tasks of the priority itself count in full,
-- since of one priority the order of requests is not known; and blocking counts to the end. The code goes from 1
-- upwards by the right side of the equation; here it is a least number.
use Rattle.std.specs.Prelude.{ℕ, ◌+◌, ◌-◌, ◌*◌, ◌/◌, ◌≤◌, nat_le, List, map, sum_by, Option, Some, None}
use Rattle.std.specs.Prelude.{if◌then◌else◌, ◌≡◌}
use Rattle.std.specs.List.{AllByRecursion}
use Rattle.rt_ids.specs.Lists.{then_from}
use Rattle.rt_app.specs.Tree.{Task, App}
use Rattle.rt_app.specs.BodyCost.{body_cost, cost_measure}
use Rattle.rt_app.specs.Stack.{handler_priorities}
use Rattle.rt_app.specs.Waiting.{waiting_bound}
use Rattle.rt_app.specs.Handlers.{bound_number}
use Rattle.rt_rta.specs.Limits.{every_of}
use Rattle.rt_rta.specs.declared.limits.Limit.{Limit}
use Rattle.rt_rta.specs.declared.response.ResponseTime.{ResponseTime}
use Rattle.rt_rta.specs.declared.response.TheConstants.{MOST_STEPS}

-- how many requests fall into so many core steps at most: the steps by the least distance, rounded up
abbrev pub most_requests : ℕ → ℕ → ℕ
most_requests steps every = (steps + (every - 1)) / every

-- how many requests fall into so many core steps: none where there is no least distance, since such an interrupt is
-- never requested
abbrev pub requests : Option ℕ → ℕ → ℕ
requests None steps = 0
requests (Some every) steps = most_requests steps every

-- the core steps of one handling, its take counted
abbrev pub handling_steps : App → Task → ℕ
handling_steps app t = body_cost (cost_measure app) t.body + 1

module _ (app : App) (limits : List Limit) (p : ℕ) where
  -- what a task of this priority or a higher one asks for in so many core steps
  abbrev pub task_demand : ℕ → Task → ℕ
  task_demand steps t =
      if nat_le p t.priority then requests (then_from (bound_number app t)
      (every_of limits)) steps * handling_steps app t
      else 0

  -- what all tasks of this priority and higher ones ask for
  abbrev pub demand : ℕ → ℕ
  demand steps = sum_by (task_demand steps) app.tasks

  -- the recurrence of response-time analysis as an inequality: in so many core steps there is room for what lower jobs
  -- hold off and for all that is asked for
  pub record Suffices (steps : ℕ) : Type 0 where
    pub some : 1 ≤ steps
    pub covers : waiting_bound app p + demand steps ≤ steps

  -- the response time (Joseph and Pandya 1986): the least number of core steps that suffices, and none where no number
  -- up to a million does
  abbrev pub IsResponse : Option ℕ → Type 0
  IsResponse None = (steps : ℕ) → steps ≤ MOST_STEPS → ¬ Suffices steps
  IsResponse (Some least) = Suffices least × (least ≤ MOST_STEPS) × ((steps : ℕ) → Suffices steps → least ≤ steps)

-- a row for each priority that has a handler, rising
pub record AreResponseTimes (app : App) (limits : List Limit) (rows : List ResponseTime) : Type 0 where
  pub priorities : map (λ row. row.priority) rows ≡ handler_priorities app
  pub each : AllByRecursion (λ row. IsResponse app limits row.priority row.steps) rows
