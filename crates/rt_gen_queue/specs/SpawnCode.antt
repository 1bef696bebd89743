-- The code of a spawn of a task of an application, by what the application determines: where the task's places and its
-- ring lie in memory, and how their sections mask (the RTIC 1 book, software tasks, `spawn`). That code is made of
-- these numbers is this project's own.
use Rattle.std.specs.Prelude.{ℕ, List, slice_index}
use Rattle.rt_ids.specs.declared.ids.Section.TheVariants as section
use Rattle.rt_app.specs.Tree.{App}
use Rattle.rt_app.specs.Bodies.{task_priority}
use Rattle.rt_app.specs.Layout.{layout, free_at}
use Rattle.rt_app.specs.Holding.{arguments_of}
use Rattle.rt_gen_queue.specs.Line.{Line}
use Rattle.rt_gen_queue.specs.Guards.{guard_of}
use Rattle.rt_gen_queue.specs.Queue.{queue_at}
use Rattle.rt_gen_queue.specs.SpawnLines.{place_lines, fill_lines, ready_lines, end_lines, spawn_lines}
use Rattle.rt_gen_queue.specs.declared.target.Target.{Target}

module _ (app : App) where
  -- what the code of a spawn of a task of a level is made of
  abbrev pub target_at : ℕ → ℕ → Target
  target_at task p = record {
    task = task;
    args = arguments_of app task;
    free = free_at app task;
    inputs = slice_index (layout app).inputs task;
    guard = guard_of app (section.Free task);
    queue = queue_at app p;
  }

  -- what the code of a spawn of a task is made of
  abbrev pub target_of : ℕ → Target
  target_of task = target_at task (task_priority app task)

  -- the lines that take a place of the task, or jump where none is left
  abbrev pub place_code : ℕ → ℕ → ℕ → ℕ → List Line
  place_code task threshold slot full = place_lines (target_of task) threshold slot full

  -- the lines that write the arguments into the cells of the place, and make the word of the message
  abbrev pub fill_code : ℕ → ℕ → List Line
  fill_code task slot = fill_lines (target_of task) slot

  -- the lines that put the message last into the ring of a level, and pend the level's dispatcher
  abbrev pub ready_code : ℕ → ℕ → ℕ → ℕ → List Line
  ready_code task p threshold slot = ready_lines (target_at task p) threshold slot

  -- the lines of the two answers: 1 after a message that was put, and 0 where no place was left
  abbrev pub end_code : ℕ → ℕ → ℕ → ℕ → List Line
  end_code task threshold slot end = end_lines (target_of task) threshold slot end

  -- the code of a spawn, from an address on: 28 lines, and one for each argument
  abbrev pub spawn_code : ℕ → ℕ → ℕ → ℕ → List Line
  spawn_code task threshold slot at = spawn_lines (target_of task) threshold slot at
