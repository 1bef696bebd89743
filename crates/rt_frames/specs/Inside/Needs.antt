-- The words of the handlers that run tasks: of a software task its dispatcher's too.
use Rattle.std.specs.Prelude.{ℕ, ◌+◌, ◌==◌, if◌then◌else◌}
use Rattle.rt_app.specs.declared.costs.TheConstants.{DISPATCHER_WORDS}
use Rattle.rt_app.specs.Tree.{Task}
use Rattle.rt_app.specs.Level.{is_software}
use Rattle.rt_app.specs.Frame.{frame_words}

-- the words of the handler that runs a task
abbrev pub task_need : Task → ℕ
task_need t = if is_software t then DISPATCHER_WORDS + frame_words t.args t.body else frame_words t.args t.body

-- the words of the handler that runs a task, and none where the task has another priority
abbrev pub need_at : ℕ → Task → ℕ
need_at p t = if t.priority == p then task_need t else 0
