-- The code of the dispatcher of a level of software tasks, instruction by instruction (the RTIC 1 book, software tasks
-- and their dispatchers): it takes the oldest message of the level's ready queue, whose word is 16 times its task and
-- its place, looks among the tasks of the level for its task, loads its arguments, gives its place back and calls the
-- body. Not this file but the law that it stands says what it means. That it is made of these instructions is this
-- project's own.
use Rattle.std.specs.Prelude.{ℕ, ◌+◌, ◌==◌, List, [], ◌∷◌, ◌++◌, length, map, slice_get, slice_index, if◌then◌else◌}
use Rattle.std.specs.List.{range_with_len}
use Rattle.rt_ids.specs.Lists.{greatest, those_below, is_some_and}
use Rattle.rt_ids.specs.declared.ids.Section.TheVariants as section
use Rattle.rt_ids.specs.declared.limits.TheConstants.{CAPACITY}
use Rattle.rt_ids.specs.declared.op.Op.TheVariants as op
use Rattle.rt_app.specs.Tree.{Task, App}
use Rattle.rt_app.specs.Level.{is_software, is_of_level}
use Rattle.rt_app.specs.Layout.{layout, free_at}
use Rattle.rt_code.specs.declared.instr.Instr.TheVariants as instr
use Rattle.rt_code.specs.declared.instr.Note.TheVariants as note
use Rattle.rt_gen_queue.specs.Line.{Line, plain, line_with_note}
use Rattle.rt_gen_queue.specs.Guards.{guard_of, enter_line, leave_line}
use Rattle.rt_gen_queue.specs.Queue.{queue_at}
use Rattle.rt_gen_queue.specs.declared.queue.ReadyQueue.{ReadyQueue}
use Rattle.rt_gen_disp.specs.declared.called.Called.{Called}
use Rattle.rt_gen_disp.specs.declared.lines.Exit.{Exit}
use Rattle.rt_gen_disp.specs.declared.slots.TheConstants.{WORD, LEFT, INDEX, OTHER, ONE, PLACE, TASK, MASK}

-- a jump where the message is of another task; else a slot gets the distance of the place's arguments from the task's
-- first
abbrev pub test_lines : Called → ℕ → List Line
test_lines c next =
    plain (instr.Set OTHER c.task) ∷ plain (instr.Calc op.Eq OTHER TASK OTHER) ∷ plain (instr.JumpZ OTHER next)
    ∷ plain (instr.Set OTHER c.args) ∷ plain (instr.Calc op.Mul OTHER PLACE OTHER) ∷ []

-- the place's arguments, so many, come into the first slots; the task's arguments lie from a cell on
abbrev pub argument_lines : ℕ → ℕ → List Line
argument_lines inputs count = map (λ j. plain (instr.LoadAt j (inputs + j) OTHER)) (range_with_len 0 count)

module _ (q : ReadyQueue) where
  -- From an address on: where nothing is ready it returns; else the word of the oldest message, its place, its task and
  -- how many are left come into slots, and the queue is without it.
  abbrev pub front_lines : ℕ → List Line
  front_lines at =
      enter_line (section.Ready q.level) q.guard q.level MASK ∷ plain (instr.Load LEFT (q.at + 1))
      ∷ plain (instr.JumpZ LEFT (at + 4)) ∷ plain (instr.Jump (at + 6))
      ∷ leave_line (section.Ready q.level) q.guard q.level MASK ∷ plain instr.Ret
      ∷ plain (instr.Load INDEX q.at) ∷ plain (instr.LoadAt WORD (q.at + 2) INDEX)
      ∷ plain (instr.Set ONE 1) ∷ plain (instr.Calc op.Sub LEFT LEFT ONE) ∷ plain (instr.Store (q.at + 1) LEFT)
      ∷ plain (instr.Calc op.Add INDEX INDEX ONE) ∷ plain (instr.Set OTHER q.room)
      ∷ plain (instr.Calc op.Rem INDEX INDEX OTHER) ∷ plain (instr.Store q.at INDEX)
      ∷ plain (instr.Set OTHER CAPACITY) ∷ plain (instr.Calc op.Div TASK WORD OTHER)
      ∷ plain (instr.Calc op.Rem PLACE WORD OTHER) ∷ []

  -- from an address on: the message starts, and where more are ready the dispatcher is pended again; then the place is
  -- given back, and the body runs
  abbrev pub start_lines : Called → ℕ → List Line
  start_lines c at =
      line_with_note instr.Mark (note.Start c.task 0) ∷ plain (instr.JumpZ LEFT (at + 3)) ∷ plain (instr.Post q.irq)
      ∷ leave_line (section.Ready q.level) q.guard q.level MASK
      ∷ enter_line (section.Free c.task) c.guard q.level MASK ∷ plain (instr.Load INDEX c.free)
      ∷ plain (instr.StoreAt (c.free + 1) INDEX PLACE) ∷ plain (instr.Calc op.Add INDEX INDEX ONE)
      ∷ line_with_note (instr.Store c.free INDEX) (note.Free c.task)
      ∷ leave_line (section.Free c.task) c.guard q.level MASK
      ∷ plain (instr.Call c.row 0) ∷ plain instr.Ret ∷ []

  -- from an address on: a message of the task is run, and one of another is left to the code at a further one
  abbrev pub choice_lines : Called → ℕ → ℕ → List Line
  choice_lines c next at = test_lines c next ++ (argument_lines c.inputs c.args ++ start_lines c (at + (5 + c.args)))

-- what a dispatcher's code has of a task, whose body has this row
abbrev pub callee_of : App → ℕ → ℕ → Task → Called
callee_of app n row t = record {
  task = n;
  row = row;
  args = t.args;
  free = free_at app n;
  inputs = slice_index (layout app).inputs n;
  guard = guard_of app (section.Free n);
}

-- What is next where a message is not of a task: the code after the task's, and for the last task of the level the
-- exit, which no message reaches.
abbrev pub next_for : Exit → ℕ → ℕ → ℕ
next_for exit n behind = if n == exit.last then exit.address else behind

-- the number of the last task of a level that has one
abbrev pub last_of : ℕ → List Task → ℕ
last_of level tasks =
    greatest (those_below (λ n. is_some_and (is_of_level level) (slice_get tasks n)) (length tasks))

module _ (app : App) (level : ℕ) (exit : Exit) where
  -- the code of the choice of a task of the level, from an address on
  abbrev pub choice_code : ℕ → ℕ → ℕ → Task → List Line
  choice_code at n row t =
      choice_lines (queue_at app level) (callee_of app n row t) (next_for exit n (at + (17 + t.args))) at

  -- the code of the choices among these tasks, the first of which has this number, from an address on, with the rows of
  -- software tasks from another on
  abbrev pub choices_code : ℕ → ℕ → ℕ → List Task → List Line
  choices_code at n row [] = []
  choices_code at n row (t ∷ more) =
      if is_of_level level t
      then choice_code at n row t ++ choices_code (at + (17 + t.args)) (n + 1) (row + 1) more
      else choices_code at (n + 1) (if is_software t then row + 1 else row) more

-- the exit of the dispatcher of a level that begins at an address: where it returns because nothing is ready
abbrev pub exit_of : App → ℕ → ℕ → Exit
exit_of app level at = record { address = at + 4; last = last_of level app.tasks }

-- the code of the dispatcher of a level, from an address on
abbrev pub dispatcher_code : App → ℕ → ℕ → List Line
dispatcher_code app level at =
    front_lines (queue_at app level) at ++ choices_code app level (exit_of app level at) (at + 18) 0 0 app.tasks
