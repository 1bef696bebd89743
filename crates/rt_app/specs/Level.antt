-- Software tasks, the levels that dispatchers serve, and the tasks whose messages can be armed (the RTIC 1 book,
-- software tasks and the monotonic). The code keeps a table by priority for the levels, and one by task for the armed
-- tasks.
use Rattle.std.specs.Prelude.{ℕ, ◌+◌, ◌==◌, Bool, ◌&&◌, is_none, List, [], ◌∷◌, count_by, take, if◌then◌else◌}
use Rattle.std.specs.List.{list_any}
use Rattle.rt_ids.specs.Lists.{those_below}
use Rattle.rt_app.specs.declared.costs.TheConstants.{PRIORITIES}
use Rattle.rt_app.specs.Tree.{Task, App, Spawn}
use Rattle.rt_app.specs.Bodies.{Member, members}
use Rattle.rt_app.specs.Spawned.{spawns, arms_message, target}

-- a software task: one that binds no interrupt
abbrev pub is_software : Task → Bool
is_software t = is_none t.binds

-- a software task of this level
abbrev pub is_of_level : ℕ → Task → Bool
is_of_level p t = is_software t && (t.priority == p)

-- the distinct priorities of software tasks, rising
abbrev pub levels : App → List ℕ
levels app = those_below (λ p. list_any (is_of_level p) app.tasks) PRIORITIES

-- the number of tasks of a level
abbrev pub tasks_of_level : App → ℕ → ℕ
tasks_of_level app p = count_by (is_of_level p) app.tasks

-- whether a spawn arms a message of this task
abbrev pub arms : ℕ → Spawn → Bool
arms n s = arms_message s && (target s == n)

-- whether a body holds a spawn that passes
abbrev pub holds : (Spawn → Bool) → Member → Bool
holds test m = list_any test (spawns m.body.block)

-- whether a task is named in a `spawn_after`
abbrev pub is_armed : App → ℕ → Bool
is_armed app n = list_any (holds (arms n)) (members app)

-- the capacities of the tasks that are named in a `spawn_after`, of those from this number on
abbrev pub armed_capacities : App → ℕ → List Task → ℕ
armed_capacities app n [] = 0
armed_capacities app n (t ∷ ts) = (if is_armed app n then t.capacity else 0) + armed_capacities app (n + 1) ts

-- how many tasks are named in a `spawn_after`, of those from this number on
abbrev pub armed_count : App → ℕ → List Task → ℕ
armed_count app n [] = 0
armed_count app n (t ∷ ts) = (if is_armed app n then 1 else 0) + armed_count app (n + 1) ts

-- how many messages may be armed at once
abbrev pub armed_messages : App → ℕ
armed_messages app = armed_capacities app 0 app.tasks

-- how many tasks are named in a `spawn_after`
abbrev pub armed_tasks : App → ℕ
armed_tasks app = armed_count app 0 app.tasks

-- the capacities of such tasks before this one
abbrev pub capacities_before : App → ℕ → ℕ
capacities_before app n = armed_capacities app 0 (take n app.tasks)
