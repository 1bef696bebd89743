-- What a text of limits says: for interrupts a least distance between two requests, as response-time analysis has it of
-- sporadic tasks (Audsley, Burns, Richardson, Tindell and Wellings, 1993); for the monotonic a least distance between
-- two ticks; for tasks that are sent after a delay a least delay; and deadlines. Ticks and least delays are this
-- project's own.
use Rattle.std.specs.Prelude.{◌≡◌, ℕ, ◌≤◌, ◌==◌, true, List, [], ◌∷◌, ◌++◌, map, find, Option, Some, None, IfSome}
use Rattle.std.specs.Prelude.{IsSome, option_map}
use Rattle.std.specs.List.{AllByRecursion}
use Rattle.rt_ids.specs.Lists.{AreDifferent}
use Rattle.rt_app.specs.Tree.{App}
use Rattle.rt_app.specs.Level.{is_armed}
use Rattle.rt_rta.specs.Limits as rta
use Rattle.rt_rta.specs.declared.limits.Limit.{Limit}
use Rattle.rt_respond.specs.declared.limits.Delay.{Delay}
use Rattle.rt_respond.specs.declared.limits.Deadline.{Deadline}
use Rattle.rt_respond.specs.declared.line.Line.{Line}
use Rattle.rt_respond.specs.declared.line.Line.TheVariants as line

-- limits, by their words
pub record Limits : Type 0 where
  pub every : List Limit
  pub tick : Option ℕ
  pub delays : List Delay
  pub deadlines : List Deadline

abbrev pub no_limits : Limits
no_limits = record { every = []; tick = None; delays = []; deadlines = [] }

-- the least distance between requests of an interrupt of this number, where it has one
abbrev pub every_of : Limits → ℕ → Option ℕ
every_of limits irq = rta.every_of limits.every irq

-- the least delay of a task, where it has one
abbrev pub delay_of : Limits → ℕ → Option ℕ
delay_of limits task = option_map (λ d. d.ticks) (find (λ d. d.task == task) limits.delays)

-- the deadline of a task, where it has one
abbrev pub deadline_of : Limits → ℕ → Option ℕ
deadline_of limits task = option_map (λ d. d.steps) (find (λ d. d.task == task) limits.deadlines)

-- the limits with what a line says
abbrev pub with_line : Limits → Line → Limits
with_line limits (line.Every limit) = record limits { every = limits.every ++ limit ∷ [] }
with_line limits (line.Tick steps) = record limits { tick = Some steps }
with_line limits (line.Delay delay) = record limits { delays = limits.delays ++ delay ∷ [] }
with_line limits (line.Deadline deadline) = record limits { deadlines = limits.deadlines ++ deadline ∷ [] }

-- limits for an application: distances of interrupts that tasks bind, of ticks where there is a monotonic, and of tasks
-- that are sent after a delay; no number is 0, and none is said twice
pub record AreLimits (app : App) (limits : Limits) : Type 0 where
  pub every : rta.AreLimits app limits.every
  pub tick : IfSome limits.tick (λ steps. (1 ≤ steps) × IsSome app.mono)
  pub delayed : AllByRecursion (λ d. (1 ≤ d.ticks) × (is_armed app d.task ≡ true)) limits.delays
  pub delays_once : AreDifferent (map (λ d. d.task) limits.delays)
  pub deadlines : AllByRecursion (λ d. 1 ≤ d.steps) limits.deadlines
  pub deadlines_once : AreDifferent (map (λ d. d.task) limits.deadlines)
