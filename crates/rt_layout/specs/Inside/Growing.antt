-- A layout that grows by the queues of a task, by the ready queue of a level, and by the timer queue.
use Rattle.std.specs.Prelude.{ℕ, ◌+◌, nat_lt, List, [], ◌∷◌, ◌++◌, length, map, flat_map, slice_index, if◌then◌else◌}
use Rattle.std.specs.Prelude.{Option, Some, None}
use Rattle.std.specs.List.{fold}
use Rattle.rt_ids.specs.Lists.{those_below}
use Rattle.rt_ids.specs.declared.cell.CellRow.{CellRow}
use Rattle.rt_app.specs.declared.app.Mono.{Mono}
use Rattle.rt_app.specs.Tree.{Task, App}
use Rattle.rt_app.specs.Level.{is_software}
use Rattle.rt_app.specs.Layout.{Layout}
use Rattle.rt_layout.specs.Inside.Rows.{resource_row, local_row, queue_rows, ready_rows, timer_rows}

-- the layout of nothing
abbrev pub none : Layout
none = record { cells = []; inputs = []; free = []; ready = []; timer = 0 }

-- the layout with the cells of all resources
abbrev pub with_resources : Layout → App → Layout
with_resources l app = record {
  cells = l.cells ++ map resource_row app.shared ++ map local_row app.locals;
  inputs = l.inputs;
  free = l.free;
  ready = l.ready;
  timer = l.timer;
}

-- the layout with the queues of a software task
abbrev pub with_queues : Layout → Task → Layout
with_queues l t = record {
  cells = l.cells ++ queue_rows t;
  inputs = l.inputs ++ (if nat_lt 0 t.args then length l.cells + 1 + t.capacity else 0) ∷ [];
  free = l.free ++ length l.cells ∷ [];
  ready = l.ready;
  timer = l.timer;
}

-- the layout after a hardware task, which has no cells
abbrev pub without_queues : Layout → Layout
without_queues l = record {
  cells = l.cells;
  inputs = l.inputs ++ 0 ∷ [];
  free = l.free ++ 0 ∷ [];
  ready = l.ready;
  timer = l.timer;
}

-- the layout with the queues of a task, if it is a software task
abbrev pub with_task : Layout → Task → Layout
with_task l t = if is_software t then with_queues l t else without_queues l

-- the layout with the ready queue of a level, which has room for so many messages
abbrev pub with_level : Layout → ℕ → ℕ → Layout
with_level l p room = record {
  cells = l.cells ++ ready_rows p room;
  inputs = l.inputs;
  free = l.free;
  ready = l.ready ++ length l.cells ∷ [];
  timer = l.timer;
}

-- the levels below a number that have room
abbrev pub roomy : List ℕ → ℕ → List ℕ
roomy rooms n = those_below (λ p. nat_lt 0 (slice_index rooms p)) n

-- the layout with the ready queues of the levels below a number
abbrev pub with_levels : List ℕ → Layout → ℕ → Layout
with_levels rooms l n = fold (λ l p. with_level l p (slice_index rooms p)) l (roomy rooms n)

-- the rows of the ready queues of the levels below a number
abbrev pub levels_rows : List ℕ → ℕ → List CellRow
levels_rows rooms n = flat_map (λ p. ready_rows p (slice_index rooms p)) (roomy rooms n)

-- the layout with the timer queue, which has room for so many armed messages
abbrev pub with_timer : ℕ → Layout → Layout
with_timer room l = record {
  cells = l.cells ++ timer_rows room;
  inputs = l.inputs;
  free = l.free;
  ready = l.ready;
  timer = length l.cells;
}

-- the layout with the timer queue, where there is a monotonic
abbrev pub with_mono : ℕ → Option Mono → Layout → Layout
with_mono room None l = l
with_mono room (Some mono) l = with_timer room l
