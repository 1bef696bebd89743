-- How often interrupts are requested at most: for each a least distance between two requests, in core steps. It is the
-- least time between arrivals of a sporadic task, which response-time analysis calls its period (Audsley, Burns,
-- Richardson, Tindell and Wellings, Applying New Scheduling Theory to Static Priority Pre-emptive Scheduling, 1993).
use Rattle.std.specs.Prelude.{◌≡◌, ℕ, ◌≤◌, ◌==◌, Bool, true, List, map, find, Option, option_map}
use Rattle.std.specs.List.{AllByRecursion, list_any}
use Rattle.rt_ids.specs.Lists.{AreDifferent, is_some_and}
use Rattle.rt_app.specs.Tree.{App}
use Rattle.rt_app.specs.Handlers.{bound_number}
use Rattle.rt_rta.specs.declared.limits.Limit.{Limit}

-- a task binds the interrupt of this number
abbrev pub is_bound : App → ℕ → Bool
is_bound app irq = list_any (λ t. is_some_and (λ n. n == irq) (bound_number app t)) app.tasks

-- the least distance between requests of this interrupt, where the limits have one
abbrev pub every_of : List Limit → ℕ → Option ℕ
every_of limits irq = option_map (λ limit. limit.every) (find (λ limit. limit.irq == irq) limits)

-- limits for an application: each of an interrupt that a task binds, none twice, and no two requests in one step
pub record AreLimits (app : App) (limits : List Limit) : Type 0 where
  pub bound : AllByRecursion (λ limit. is_bound app limit.irq ≡ true) limits
  pub once : AreDifferent (map (λ limit. limit.irq) limits)
  pub positive : AllByRecursion (λ limit. 1 ≤ limit.every) limits
