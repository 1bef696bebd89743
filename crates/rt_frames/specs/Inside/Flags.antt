-- Tables of flags, one for each number that a byte can hold.
use Rattle.std.specs.Prelude.{◌≡◌, ℕ, Bool, true, false, nat_lt, List, [], ◌∷◌, map, filter, length, get_or}
use Rattle.std.specs.Prelude.{slice_set, Option, Some, None, if◌then◌else◌}
use Rattle.rt_app.specs.declared.app.Mono.{Mono}
use Rattle.rt_app.specs.Tree.{Spawn, Body, Task}
use Rattle.rt_app.specs.Level.{is_software}
use Rattle.rt_frames.specs.declared.flags.TheConstants.{NUMBERS}
use Rattle.rt_app.specs.Spawned.{spawns, arms_message, target}

-- a table with the flags of these numbers set; the empty table where one of them is no index of it
abbrev pub flags_with : List ℕ → List Bool → List Bool
flags_with [] flags = flags
flags_with (n ∷ ns) flags = if nat_lt n (length flags) then flags_with ns (slice_set flags n true) else []

-- the numbers that pass are flagged, and no others
pub record HasFlags (flags : List Bool) (test : ℕ → Bool) : Type 0 where
  pub long : length flags ≡ NUMBERS
  pub flag : (n : ℕ) → get_or flags n false ≡ test n

-- the tasks of the spawns after a delay
abbrev pub delayed_targets : List Spawn → List ℕ
delayed_targets ss = map target (filter arms_message ss)

-- the spawns of `init` or `idle`, where it is declared
abbrev pub thread_spawns : Option Body → List Spawn
thread_spawns None = []
thread_spawns (Some b) = spawns b.block

-- the spawns of a task's body
abbrev pub task_spawns : Task → List Spawn
task_spawns t = spawns t.body.block

-- the priorities of software tasks
abbrev pub level_numbers : List Task → List ℕ
level_numbers ts = map (λ t. t.priority) (filter is_software ts)

-- the priority of the monotonic
abbrev pub timer_numbers : Option Mono → List ℕ
timer_numbers None = []
timer_numbers (Some mono) = mono.priority ∷ []
