-- Where resources, places, messages and queues lie in memory: one list of cells, so that no cell belongs to two things.
-- First come the shared resources, a cell each, then the local ones, then for each software task its free places and
-- the arguments of each of its places, then for each level of software tasks its ready queue, and at last the timer
-- queue. The order is this project's own. The code keeps the numbers of first cells.
use Rattle.std.specs.Prelude.{ℕ, ◌+◌, Bool, ◌&&◌, nat_lt, List, [], ◌∷◌, ◌++◌, codes, decimal, length, map, flat_map}
use Rattle.std.specs.Prelude.{filter, sum_by, take, slice_index_or, if◌then◌else◌, Option, Some, None}
use Rattle.std.specs.List.{range_with_len}
use Rattle.rt_actions.specs.Location.{Guarded, Own}
use Rattle.rt_actions.specs.Storage.{Home, At, In, Nowhere}
use Rattle.rt_ids.specs.declared.cell.CellRow.{CellRow}
use Rattle.rt_ids.specs.declared.ids.Section.TheVariants as section
use Rattle.rt_app.specs.declared.app.Shared.{Shared}
use Rattle.rt_app.specs.declared.app.Local.{Local}
use Rattle.rt_app.specs.declared.app.Mono.{Mono}
use Rattle.rt_app.specs.Tree.{Task, App}
use Rattle.rt_app.specs.Level.{is_software, is_of_level, levels, armed_messages}
use Rattle.rt_app.specs.Sending.{capacity_of}

-- a cell of memory
pub record Cell : Type 0 where
  -- a resource's own name, or one with a dot
  pub name : List ℕ
  -- its value after reset
  pub first : ℕ
  -- what it belongs to
  pub home : Home

-- resources, the first of which has this number
abbrev pub resource_cells : ℕ → List Shared → List Cell
resource_cells r [] = []
resource_cells r (s ∷ more) =
    record { name = s.name; first = s.first; home = At (Guarded (section.Res r)) } ∷ resource_cells (r + 1) more

-- local resources, the first of which has this number
abbrev pub local_cells : ℕ → List Local → List Cell
local_cells n [] = []
local_cells n (l ∷ more) =
    record { name = codes "local." ++ l.name; first = l.first; home = At (Own n) } ∷ local_cells (n + 1) more

-- The free places of a task lie as a stack: how many there are, and then their numbers. At first all are free.
abbrev pub free_cells : ℕ → Task → List Cell
free_cells n t =
    let front : List ℕ = codes "free." ++ t.name ++ codes "." in
    record { name = front ++ codes "count"; first = t.capacity; home = At (Guarded (section.Free n)) }
    ∷ map (λ k. record { name = front ++ decimal k; first = k; home = At (Guarded (section.Free n)) })
    (range_with_len 0 t.capacity)

-- the arguments of a place
abbrev pub place_cells : ℕ → Task → ℕ → List Cell
place_cells n t place =
    let front : List ℕ = codes "input." ++ t.name ++ codes "." ++ decimal place ++ codes "." in
    map (λ k. record { name = front ++ decimal k; first = 0; home = In (record { task = n; place = place }) })
    (range_with_len 0 t.args)

-- the cells of tasks, the first of which has this number: free places and arguments; a hardware task has none
abbrev pub task_cells : ℕ → List Task → List Cell
task_cells n [] = []
task_cells n (t ∷ more) =
    (if is_software t then free_cells n t ++ flat_map (place_cells n t) (range_with_len 0 t.capacity) else [])
    ++ task_cells (n + 1) more

-- the messages of a level that may be ready at once
abbrev pub ready_room : App → ℕ → ℕ
ready_room app p = sum_by (λ t. t.capacity) (filter (is_of_level p) app.tasks)

-- A ready queue lies as a ring: the index of its oldest message, how many there are, and then the messages.
abbrev pub ready_cells : App → ℕ → List Cell
ready_cells app p =
    let front : List ℕ = codes "ready." ++ decimal p ++ codes "." in
    let cell : List ℕ → Cell = λ name. record {
      name = front ++ name;
      first = 0;
      home = At (Guarded (section.Ready p));
    } in
    cell (codes "head") ∷ cell (codes "count")
    ∷ map (λ k. cell (codes "at." ++ decimal k)) (range_with_len 0 (ready_room app p))

-- a cell of the timer queue, which is 0 at first
abbrev pub timer_cell : List ℕ → Cell
timer_cell name = record { name = codes "timer." ++ name; first = 0; home = At (Guarded section.Timer) }

-- a cell for each message that may be armed
abbrev pub timer_column : App → List ℕ → List Cell
timer_column app name = map (λ k. timer_cell (name ++ codes "." ++ decimal k)) (range_with_len 0 (armed_messages app))

-- The timer queue: how many messages are armed, how many armings there were, moves counted too, and how many handles
-- were given. Then for each place of the tasks that may be armed the instant of its message, the number of its last
-- arming and its handle; these three stay where they are. At last a heap of these rows.
abbrev pub timer_queue_cells : App → List Cell
timer_queue_cells app =
    timer_cell (codes "count") ∷ timer_cell (codes "armings") ∷ timer_cell (codes "given")
    ∷ (timer_column app (codes "at") ++ (timer_column app (codes "arming")
    ++ (timer_column app (codes "handle") ++ timer_column app (codes "heap"))))

-- the cells of the timer queue, where there is a monotonic
abbrev pub timer_cells : App → Option Mono → List Cell
timer_cells app None = []
timer_cells app (Some mono) = timer_queue_cells app

-- all cells of an application, by number
abbrev pub memory : App → List Cell
memory app =
    resource_cells 0 app.shared
    ++ (local_cells 0 app.locals ++ (task_cells 0 app.tasks
    ++ (flat_map (ready_cells app) (levels app) ++ timer_cells app app.mono)))

-- the cell of a shared resource
abbrev pub resource_at : App → ℕ → ℕ
resource_at app r = r

-- the cell of a local resource, behind the shared ones
abbrev pub local_at : App → ℕ → ℕ
local_at app n = length app.shared + n

-- the first cell of the free places of a task, behind all resources and the cells of the tasks before it
abbrev pub free_at : App → ℕ → ℕ
free_at app n = length app.shared + length app.locals + length (task_cells 0 (take n app.tasks))

-- the first cell of the arguments of a task's places, behind its free places and the number of them
abbrev pub inputs_at : App → ℕ → ℕ
inputs_at app n = free_at app n + 1 + capacity_of app n

-- the first cell of the ready queue of a level, behind all resources, the cells of all tasks and the ready queues of
-- lower levels
abbrev pub ready_at : App → ℕ → ℕ
ready_at app p =
    length app.shared + length app.locals + length (task_cells 0 app.tasks)
    + length (flat_map (ready_cells app) (filter (λ q. nat_lt q p) (levels app)))

-- The first cell of the timer queue, behind all ready queues: how many messages are armed. Then come the counts of
-- armings and of handles, and the columns.
abbrev pub timer_at : App → ℕ
timer_at app =
    length app.shared + length app.locals + length (task_cells 0 app.tasks)
    + length (flat_map (ready_cells app) (levels app))

-- the cell of the count of armings, moves counted too
abbrev pub armings_at : App → ℕ
armings_at app = timer_at app + 1

-- the cell of the count of handles that were given
abbrev pub handle_count_at : App → ℕ
handle_count_at app = timer_at app + 2

-- the first cell of the column of instants
abbrev pub instants_at : App → ℕ
instants_at app = timer_at app + 3

-- the first cell of the column of the numbers of last armings
abbrev pub numbers_at : App → ℕ
numbers_at app = instants_at app + armed_messages app

-- the first cell of the column of handles
abbrev pub handles_at : App → ℕ
handles_at app = numbers_at app + armed_messages app

-- the first cell of the heap of the rows of armed messages
abbrev pub heap_at : App → ℕ
heap_at app = handles_at app + armed_messages app

-- the first cell of the timer queue, where there is a monotonic
abbrev pub timer_queue_at : App → Option Mono → ℕ
timer_queue_at app None = 0
timer_queue_at app (Some mono) = timer_at app

-- what the cell of this number belongs to
abbrev pub home_of : App → ℕ → Home
home_of app c = slice_index_or (map (λ cell. cell.home) (memory app)) c Nowhere

-- the cells as a core takes them, and the numbers of the first cells that code for queues needs, 0 where there is none
pub record Layout : Type 0 where
  pub cells : List CellRow
  -- by task
  pub inputs : List ℕ
  pub free : List ℕ
  -- by rising level of software tasks
  pub ready : List ℕ
  pub timer : ℕ

-- a cell as a row of an image: its name and its first value
abbrev pub row_of : Cell → CellRow
row_of cell = record { name = cell.name; first = cell.first }

-- whether a task has cells for arguments
abbrev pub has_inputs : Task → Bool
has_inputs t = is_software t && nat_lt 0 t.args

-- the numbers of first cells by task, for the tasks that pass, and 0 for any other
abbrev pub numbers_of : (Task → Bool) → (ℕ → ℕ) → ℕ → List Task → List ℕ
numbers_of test at n [] = []
numbers_of test at n (t ∷ more) = (if test t then at n else 0) ∷ numbers_of test at (n + 1) more

-- the layout of an application
abbrev pub layout : App → Layout
layout app = record {
  cells = map row_of (memory app);
  inputs = numbers_of has_inputs (inputs_at app) 0 app.tasks;
  free = numbers_of is_software (free_at app) 0 app.tasks;
  ready = map (ready_at app) (levels app);
  timer = timer_queue_at app app.mono;
}
