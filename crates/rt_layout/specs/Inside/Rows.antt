-- The rows of cells as the code appends them, without what they belong to.
use Rattle.std.specs.Prelude.{ℕ, List, [], ◌∷◌, ◌++◌, codes, decimal, map, flat_map, Option, Some, None, if◌then◌else◌}
use Rattle.std.specs.List.{range_with_len}
use Rattle.rt_ids.specs.declared.cell.CellRow.{CellRow}
use Rattle.rt_app.specs.declared.app.Shared.{Shared}
use Rattle.rt_app.specs.declared.app.Local.{Local}
use Rattle.rt_app.specs.declared.app.Mono.{Mono}
use Rattle.rt_app.specs.Tree.{Task}
use Rattle.rt_app.specs.Level.{is_software}

-- a row of this name and this first value
abbrev pub row : List ℕ → ℕ → CellRow
row name first = record { name = name; first = first }

-- the row of a shared resource
abbrev pub resource_row : Shared → CellRow
resource_row s = row s.name s.first

-- the row of a local resource
abbrev pub local_row : Local → CellRow
local_row l = row (codes "local." ++ l.name) l.first

-- so many rows that hold 0
abbrev pub zero_rows : List ℕ → ℕ → List CellRow
zero_rows front count = map (λ k. row (front ++ decimal k) 0) (range_with_len 0 count)

-- so many rows that hold their numbers
abbrev pub place_rows : List ℕ → ℕ → List CellRow
place_rows front count = map (λ k. row (front ++ decimal k) k) (range_with_len 0 count)

-- what the names of a task's cells begin with
abbrev pub task_front : List ℕ → Task → List ℕ
task_front word t = word ++ t.name ++ codes "."

-- the rows of a task's free places: how many there are, and then their numbers
abbrev pub free_rows : Task → List CellRow
free_rows t =
    row (task_front (codes "free.") t ++ codes "count") t.capacity
    ∷ place_rows (task_front (codes "free.") t) t.capacity

-- the rows of the arguments of a place
abbrev pub input_rows : Task → ℕ → List CellRow
input_rows t place = zero_rows (codes "input." ++ t.name ++ codes "." ++ decimal place ++ codes ".") t.args

-- the rows of a software task: its free places, and the arguments of each place
abbrev pub queue_rows : Task → List CellRow
queue_rows t = free_rows t ++ flat_map (input_rows t) (range_with_len 0 t.capacity)

-- the rows of a task, which are none where it is a hardware task
abbrev pub task_rows : Task → List CellRow
task_rows t = if is_software t then queue_rows t else []

-- what the names of the cells of a level's ready queue begin with
abbrev pub ready_front : ℕ → List ℕ
ready_front p = codes "ready." ++ decimal p ++ codes "."

-- the rows of the ready queue of a level, with room for so many messages
abbrev pub ready_rows : ℕ → ℕ → List CellRow
ready_rows p room =
    row (ready_front p ++ codes "head") 0
    ∷ row (ready_front p ++ codes "count") 0
    ∷ zero_rows (ready_front p ++ codes "at.") room

-- the rows of the counts of the timer queue
abbrev pub timer_counts : List CellRow
timer_counts = row (codes "timer.count") 0 ∷ row (codes "timer.armings") 0 ∷ row (codes "timer.given") 0 ∷ []

-- the rows of the timer queue, with room for so many messages
abbrev pub timer_rows : ℕ → List CellRow
timer_rows room =
    timer_counts
    ++ (zero_rows (codes "timer.at.") room ++ (zero_rows (codes "timer.arming.") room
    ++ (zero_rows (codes "timer.handle.") room ++ zero_rows (codes "timer.heap.") room)))

-- the rows of the timer queue, where there is a monotonic
abbrev pub timed_rows : ℕ → Option Mono → List CellRow
timed_rows room None = []
timed_rows room (Some mono) = timer_rows room
