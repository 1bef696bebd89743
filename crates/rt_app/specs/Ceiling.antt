-- Priority ceilings (Baker, Stack-Based Scheduling of Realtime Processes, 1991; the RTIC 1 book): the greatest
-- priority of the bodies that use what a section guards. That queues are guarded so, and by which ceilings, is this
-- project's own. The code fills a table for each kind in one pass over the bodies.
use Rattle.std.specs.Prelude.{ℕ, ◌+◌, ◌==◌, max, Bool, ◌&&◌, List, [], ◌∷◌, map, filter, length, slice_get, Option}
use Rattle.std.specs.Prelude.{Some, None, option_map, if◌then◌else◌}
use Rattle.std.specs.List.{list_any, range_with_len}
use Rattle.rt_ids.specs.declared.ids.Section.{Section}
use Rattle.rt_ids.specs.declared.ids.Section.TheVariants as section
use Rattle.rt_app.specs.declared.app.Mono.{Mono}
use Rattle.rt_app.specs.declared.ceilings.ReadyCeiling.{ReadyCeiling}
use Rattle.rt_app.specs.Tree.{Task, App, Spawn}
use Rattle.rt_app.specs.Bodies.{Member, members, task_priority}
use Rattle.rt_app.specs.Spawned.{makes_ready, arms_message, uses_places, uses_timer, target}
use Rattle.rt_app.specs.Level.{is_software, is_of_level, levels, holds}
use Rattle.rt_ids.specs.Lists.{is_some_and, greatest, or_zero}

-- the ceilings: by resource; by task, where it is a software task; by level; and of the timer queue, where there is a
-- monotonic
pub record Ceilings : Type 0 where
  pub shared : List ℕ
  pub free : List (Option ℕ)
  pub ready : List ReadyCeiling
  pub timer : Option ℕ

-- the greatest priority of the bodies that pass, and 0 where none does
abbrev pub greatest_priority : (Member → Bool) → App → ℕ
greatest_priority test app = greatest (map (λ m. m.priority) (filter test (members app)))

-- whether a body lists a shared resource
abbrev pub lists : ℕ → Member → Bool
lists r m = list_any (λ l. l.resource == r) m.body.shared

-- the ceiling of a shared resource: the greatest priority of the bodies that list it
abbrev pub resource_ceiling : App → ℕ → ℕ
resource_ceiling app r = greatest_priority (lists r) app

-- whether a spawn takes a place of this task or gives one back
abbrev pub uses_places_of : ℕ → Spawn → Bool
uses_places_of n s = uses_places s && (target s == n)

-- the ceiling of a task's free places: the greatest priority of the task itself, and of the bodies that spawn it, at
-- once or after a delay, or cancel a message of it
abbrev pub free_ceiling : App → ℕ → ℕ
free_ceiling app n = max (task_priority app n) (greatest_priority (holds (uses_places_of n)) app)

-- whether a spawn at once is of a task of this level
abbrev pub readies : App → ℕ → Spawn → Bool
readies app p s = makes_ready s && is_some_and (is_of_level p) (slice_get app.tasks (target s))

-- whether a spawn after a delay is of a task of this level
abbrev pub arms_level : App → ℕ → Spawn → Bool
arms_level app p s = arms_message s && is_some_and (is_of_level p) (slice_get app.tasks (target s))

-- the priority of the monotonic, which makes messages ready that are due, where some body arms messages of this level;
-- else 0
abbrev pub mover_priority : App → ℕ → Option Mono → ℕ
mover_priority app p None = 0
mover_priority app p (Some mono) = if list_any (holds (arms_level app p)) (members app) then mono.priority else 0

-- the ceiling of a ready queue: the greatest of the level itself, the priorities of the bodies that spawn its tasks at
-- once, and that of the monotonic where it moves messages there
abbrev pub ready_ceiling : App → ℕ → ℕ
ready_ceiling app p = max p (max (greatest_priority (holds (readies app p)) app) (mover_priority app p app.mono))

-- the ceiling of the timer queue: the greatest of the monotonic's priority and those of the bodies that spawn after a
-- delay, cancel or reschedule
abbrev pub timer_ceiling : App → ℕ
timer_ceiling app =
    max (or_zero (option_map (λ mono. mono.priority) app.mono)) (greatest_priority (holds uses_timer) app)

-- the priority ceiling of what a section guards (Baker 1991): the section holds off this priority and all below it
abbrev pub ceiling : App → Section → ℕ
ceiling app (section.Res r) = resource_ceiling app r
ceiling app (section.Free n) = free_ceiling app n
ceiling app (section.Ready p) = ready_ceiling app p
ceiling app section.Timer = timer_ceiling app

-- the ceilings of the free places of the tasks from this number on, where they are software tasks
abbrev pub free_ceilings : App → ℕ → List Task → List (Option ℕ)
free_ceilings app n [] = []
free_ceilings app n (t ∷ ts) =
    (if is_software t then Some (ceiling app (section.Free n)) else None) ∷ free_ceilings app (n + 1) ts

-- the ceilings of all that there is
abbrev pub ceilings : App → Ceilings
ceilings app = record {
  shared = map (λ r. ceiling app (section.Res r)) (range_with_len 0 (length app.shared));
  free = free_ceilings app 0 app.tasks;
  ready = map (λ p. record { level = p; ceiling = ceiling app (section.Ready p) }) (levels app);
  timer = option_map (λ mono. ceiling app section.Timer) app.mono;
}
