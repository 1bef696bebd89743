-- How many messages of each level may be ready at once, as a table by priority.
use Rattle.std.specs.Prelude.{◌≡◌, ℕ, ◌+◌, ◌<◌, List, filter, length, sum_by, slice_index, slice_set, if◌then◌else◌}
use Rattle.rt_app.specs.declared.costs.TheConstants.{PRIORITIES}
use Rattle.rt_app.specs.Tree.{Task}
use Rattle.rt_app.specs.Level.{is_software, is_of_level}

-- the table with the capacity of a software task added at its level
abbrev pub with_capacity : List ℕ → Task → List ℕ
with_capacity rooms t =
    if is_software t then slice_set rooms t.priority (slice_index rooms t.priority + t.capacity) else rooms

-- how many messages of a level may be ready at once
abbrev pub room_of : List Task → ℕ → ℕ
room_of ts p = sum_by (λ t. t.capacity) (filter (is_of_level p) ts)

-- the table has the room of each level
pub record HasRooms (ts : List Task) (rooms : List ℕ) : Type 0 where
  pub long : length rooms ≡ PRIORITIES
  pub at : (p : ℕ) → p < PRIORITIES → slice_index rooms p ≡ room_of ts p
