-- What the code of a dispatcher has for one task.
use Rattle.std.specs.Prelude.{ℕ, List, [], Option, Some, None, if◌then◌else◌}
use Rattle.rt_app.specs.Tree.{Task, App}
use Rattle.rt_app.specs.Level.{is_of_level}
use Rattle.rt_gen_queue.specs.Line.{Line}
use Rattle.rt_gen_disp.specs.Code.{choice_code}
use Rattle.rt_gen_disp.specs.declared.lines.Exit.{Exit}

-- from an address on: the code for the task of this number, where there is one and it is of the level, with the row of
-- its body
abbrev pub task_code : App → ℕ → Exit → ℕ → ℕ → ℕ → Option Task → List Line
task_code app level exit at n row None = []
task_code app level exit at n row (Some t) =
    if is_of_level level t then choice_code app level exit at n row t else []
