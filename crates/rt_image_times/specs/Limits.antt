-- How often the interrupts of an image are requested at most: for each a least distance between two requests, in core
-- steps, as response-time analysis has it of sporadic tasks (Audsley, Burns, Richardson, Tindell and Wellings, Applying
-- New Scheduling Theory to Static Priority Pre-emptive Scheduling, 1993). An image has interrupts that are enabled, and
-- no tasks.
use Rattle.std.specs.Prelude.{◌≡◌, ℕ, ◌≤◌, ◌==◌, ◌&&◌, Bool, true, List, map, is_some}
use Rattle.std.specs.List.{AllByRecursion, list_any}
use Rattle.rt_ids.specs.Lists.{AreDifferent}
use Rattle.rt_code.specs.Image.{Image}
use Rattle.rt_rta.specs.declared.limits.Limit.{Limit}

-- an enabled interrupt has this number
abbrev pub has_enabled : Image → ℕ → Bool
has_enabled img irq = list_any (λ row. (row.number == irq) && is_some row.handler) img.irqs

-- limits for an image: each of an enabled interrupt, none twice, and no two requests in one step
pub record AreImageLimits (img : Image) (limits : List Limit) : Type 0 where
  pub enabled : AllByRecursion (λ limit. has_enabled img limit.irq ≡ true) limits
  pub once : AreDifferent (map (λ limit. limit.irq) limits)
  pub positive : AllByRecursion (λ limit. 1 ≤ limit.every) limits
