-- The ceilings as they are read off the filled tables.
use Rattle.std.specs.Prelude.{ℕ, ◌+◌, max, Bool, true, false, List, [], ◌∷◌, length}
use Rattle.std.specs.Prelude.{map, nat_lt, slice_index, slice_index_or, slice_set, replicate, Option, Some, None}
use Rattle.std.specs.Prelude.{option_map, if◌then◌else◌}
use Rattle.std.specs.List.{fold}
use Rattle.rt_app.specs.declared.app.Mono.{Mono}
use Rattle.rt_app.specs.declared.ceilings.ReadyCeiling.{ReadyCeiling}
use Rattle.rt_app.specs.declared.costs.TheConstants.{PRIORITIES}
use Rattle.rt_app.specs.Tree.{Task}
use Rattle.rt_app.specs.Level.{is_software}
use Rattle.rt_ids.specs.Lists.{those_below}
use Rattle.rt_ceil.specs.Inside.Tables.{level_of}

-- the ceiling of a task's free places, where the task is a software task
abbrev pub free_row : Task → ℕ → Option ℕ
free_row t priority = if is_software t then Some (max t.priority priority) else None

-- the ceilings of the free places of the tasks from this number on
abbrev pub free_rows : List ℕ → ℕ → List Task → List (Option ℕ)
free_rows table n [] = []
free_rows table n (t ∷ ts) = free_row t (slice_index table n) ∷ free_rows table (n + 1) ts

-- the levels with this one marked too
abbrev pub served_with : List Bool → Option ℕ → List Bool
served_with served None = served
served_with served (Some level) = if nat_lt level (length served) then slice_set served level true else served

-- for each level, whether there is a software task of it
abbrev pub served_levels : List Task → List Bool
served_levels ts = fold (λ served t. served_with served (level_of t)) (replicate PRIORITIES false) ts

-- the ceiling of the ready queue of a level: no less than the level itself
abbrev pub ready_row : List ℕ → ℕ → ReadyCeiling
ready_row table level = record { level = level; ceiling = max level (slice_index table level) }

-- the ceilings of the ready queues of the levels below this one
abbrev pub ready_rows : List Bool → List ℕ → ℕ → List ReadyCeiling
ready_rows served table n = map (ready_row table) (those_below (λ level. slice_index_or served level false) n)

-- the ceiling of the timer queue, where there is a monotonic: no less than its priority
abbrev pub timer_row : Option Mono → ℕ → Option ℕ
timer_row mono priority = option_map (λ m. max m.priority priority) mono
