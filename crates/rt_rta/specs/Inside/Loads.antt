-- The tasks that are requested, as the code keeps them.
use Rattle.std.specs.Prelude.{ℕ, ◌*◌, nat_le, List, [], ◌∷◌, flat_map, sum_by, Option, Some, None, if◌then◌else◌}
use Rattle.rt_ids.specs.Lists.{then_from}
use Rattle.rt_app.specs.Tree.{Task, App}
use Rattle.rt_app.specs.Handlers.{bound_number}
use Rattle.rt_rta.specs.Limits.{every_of}
use Rattle.rt_rta.specs.Response.{most_requests, handling_steps}
use Rattle.rt_rta.specs.declared.limits.Limit.{Limit}
use Rattle.rt_rta.specs.declared.load.Load.{Load}

-- of a task whose interrupt may be requested so often
abbrev pub load_of : App → Task → Option ℕ → List Load
load_of app t None = []
load_of app t (Some every) = record { priority = t.priority; every = every; steps = handling_steps app t } ∷ []

-- what a task asks for, where its interrupt may be requested
abbrev pub task_loads : App → List Limit → Task → List Load
task_loads app limits t = load_of app t (then_from (bound_number app t) (every_of limits))

-- what the tasks of an application ask for
abbrev pub loads : App → List Limit → List Load
loads app limits = flat_map (task_loads app limits) app.tasks

-- what it asks for in so many core steps, where it is of this priority or a higher one
abbrev pub load_demand : ℕ → ℕ → Load → ℕ
load_demand p steps load = if nat_le p load.priority then most_requests steps load.every * load.steps else 0

-- what all these ask for in so many core steps
abbrev pub loads_demand : ℕ → ℕ → List Load → ℕ
loads_demand p steps all = sum_by (load_demand p steps) all
