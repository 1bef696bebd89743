-- The ceilings of sections as the tables have them. Where a table has no row, nobody spawns the task, or no task is of
-- the level: then the priority of the task, or the level, is the ceiling (Baker, Stack-Based Scheduling of Realtime
-- Processes, 1991). The definitions look through all bodies.
use Rattle.std.specs.Prelude.{ℕ, ◌==◌, List, slice_get, find, Option, Some, None}
use Rattle.std.specs.Option.{unwrap_or}
use Rattle.rt_ids.specs.Lists.{then_from}
use Rattle.rt_app.specs.declared.ceilings.ReadyCeiling.{ReadyCeiling}
use Rattle.rt_app.specs.Ceiling.{Ceilings}

-- the ceiling of a task's free places, and its priority where the table has none
abbrev pub free_or : Ceilings → ℕ → ℕ → ℕ
free_or c n p = unwrap_or (then_from (slice_get c.free n) (λ o. o)) p

-- the ceiling in a row, and else this one
abbrev pub ceiling_or : ℕ → Option ReadyCeiling → ℕ
ceiling_or p None = p
ceiling_or p (Some r) = r.ceiling

-- the ceiling of the ready queue of a level, and the level where the table has none
abbrev pub ready_or : List ReadyCeiling → ℕ → ℕ
ready_or rows p = ceiling_or p (find (λ r. r.level == p) rows)
