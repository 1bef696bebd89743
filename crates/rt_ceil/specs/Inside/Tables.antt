-- What one pass over the bodies fills: for each thing that a section guards, the greatest priority of the bodies that
-- use it. The timer handler counts too among those that use a ready queue.
use Rattle.std.specs.Prelude.{ℕ, max, nat_lt, List, length, slice_get, slice_index, slice_set, replicate}
use Rattle.std.specs.Prelude.{Option, Some, None, if◌then◌else◌}
use Rattle.std.specs.List.{fold}
use Rattle.rt_app.specs.declared.app.Mono.{Mono}
use Rattle.rt_app.specs.declared.body.Listed.{Listed}
use Rattle.rt_app.specs.declared.costs.TheConstants.{PRIORITIES}
use Rattle.rt_app.specs.Tree.{Block, Body, Task, App, Spawn, Soon, After, Cancel, Move}
use Rattle.rt_app.specs.Spawned.{spawns}
use Rattle.rt_app.specs.Level.{is_software}

-- the greatest priorities found so far, of the users of each resource and each queue
pub record Tables : Type 0 where
  -- by resource
  pub shared : List ℕ
  -- by task
  pub free : List ℕ
  -- by level; a spawn after a delay counts with the monotonic's priority, not the body's
  pub ready : List ℕ
  pub timer : ℕ

-- tables of these parts
abbrev pub tables : List ℕ → List ℕ → List ℕ → ℕ → Tables
tables shared free ready timer = record { shared = shared; free = free; ready = ready; timer = timer }

-- the tables before any body
abbrev pub zero_tables : App → Tables
zero_tables app = record {
  shared = replicate (length app.shared) 0;
  free = replicate (length app.tasks) 0;
  ready = replicate PRIORITIES 0;
  timer = 0;
}

-- a table with the entry at this index at least this, where there is such an index
abbrev pub raised_table : List ℕ → ℕ → ℕ → List ℕ
raised_table table index priority =
    if nat_lt index (length table) then slice_set table index (max (slice_index table index) priority) else table

-- a table with the entry of a level at least this, where there is a level
abbrev pub raised_level : List ℕ → Option ℕ → ℕ → List ℕ
raised_level table None priority = table
raised_level table (Some level) priority = raised_table table level priority

-- the level of a software task
abbrev pub level_of : Task → Option ℕ
level_of t = if is_software t then Some t.priority else None

-- the level of a task, where it is a software task
abbrev pub level_in : Option Task → Option ℕ
level_in None = None
level_in (Some t) = level_of t

-- the priority of the monotonic; 0, which raises no entry, without one
abbrev pub mono_priority : Option Mono → ℕ
mono_priority None = 0
mono_priority (Some mono) = mono.priority

-- the tables after a spawn by a body of this priority
abbrev pub tables_after_spawn : App → ℕ → Tables → Spawn → Tables
tables_after_spawn app priority t (Soon task args at) = record {
  shared = t.shared;
  free = raised_table t.free task priority;
  ready = raised_level t.ready (level_in (slice_get app.tasks task)) priority;
  timer = t.timer;
}
tables_after_spawn app priority t (After word delay task args at) = record {
  shared = t.shared;
  free = raised_table t.free task priority;
  ready = raised_level t.ready (level_in (slice_get app.tasks task)) (mono_priority app.mono);
  timer = max t.timer priority;
}
tables_after_spawn app priority t (Cancel word task handle at) = record {
  shared = t.shared;
  free = raised_table t.free task priority;
  ready = t.ready;
  timer = max t.timer priority;
}
tables_after_spawn app priority t (Move word delay task handle at) = record {
  shared = t.shared;
  free = t.free;
  ready = t.ready;
  timer = max t.timer priority;
}

-- the tables after a listing by a body of this priority
abbrev pub tables_after_listing : ℕ → Tables → Listed → Tables
tables_after_listing priority t l = record {
  shared = raised_table t.shared l.resource priority;
  free = t.free;
  ready = t.ready;
  timer = t.timer;
}

-- the tables after a body of this priority that lists these and does this
abbrev pub tables_after_body : App → ℕ → List Listed → Block → Tables → Tables
tables_after_body app priority shared block t = fold (tables_after_spawn app priority)
    (fold (tables_after_listing priority) t shared) (spawns block)

-- the tables after `init` or `idle`, where it is declared
abbrev pub used_by_thread : App → Tables → Option Body → Tables
used_by_thread app t None = t
used_by_thread app t (Some b) = tables_after_body app 0 b.shared b.block t

-- the tables after the body of a task
abbrev pub used_by_task : App → Tables → Task → Tables
used_by_task app t task = tables_after_body app task.priority task.body.shared task.body.block t

-- the tables after all bodies
abbrev pub filled_tables : App → Tables
filled_tables app =
    fold (used_by_task app) (used_by_thread app (used_by_thread app (zero_tables app) app.init) app.idle) app.tasks
