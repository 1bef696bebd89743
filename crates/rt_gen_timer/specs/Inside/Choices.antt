-- What the timer handler has for one task.
use Rattle.std.specs.Prelude.{ℕ, ◌&&◌, List, [], if◌then◌else◌}
use Rattle.rt_app.specs.Tree.{Task, App}
use Rattle.rt_app.specs.Level.{is_software, is_armed}
use Rattle.rt_gen_queue.specs.Line.{Line}
use Rattle.rt_gen_timer.specs.TimerLines.{choice_lines}
use Rattle.rt_gen_timer.specs.TimerCode.{queue_of, armed_task}

-- from an address on: the code for this task of this number, where messages of it may be armed
abbrev pub task_code : App → ℕ → ℕ → ℕ → Task → List Line
task_code app threshold at n t =
    if is_software t && is_armed app n then choice_lines (queue_of app) 0 threshold (armed_task app n) at else []
