-- What a line of a limits text says. It is blank, or begins with `#` as a comment, both as in a script, or is one of
--     every I N    tick N    delay T N    deadline X N
-- with an interrupt I that a task binds, a software task T that is sent after a delay, and X as I or a software task; a
-- name stands once with a word, `tick` once and where there is a monotonic; and a number N has one to nine digits and
-- is at least 1. One or more spaces separate words, and none stand before the first or behind the last. The form is
-- this project's own.
use Rattle.std.specs.Prelude.{ℕ, ◌&&◌, ◌||◌, Bool, nat_le, if◌then◌else◌, bytes_eq, codes, List, [], ◌∷◌, position}
use Rattle.std.specs.Prelude.{slice_get, Option, Some, None, is_some, Result, Ok, Err}
use Rattle.rt_ids.specs.Lists.{then_from, is_some_and}
use Rattle.rt_ids.specs.Word.{is_identifier}
use Rattle.rt_lines.specs.Parts.{spaced_words}
use Rattle.rt_lines.specs.Numbers.{short_number}
use Rattle.rt_lines.specs.Answers.{and_then, and_make}
use Rattle.rt_script.specs.Wording.{is_blank, is_comment, is_loose}
use Rattle.rt_app.specs.Tree.{Task, App}
use Rattle.rt_app.specs.Level.{is_software, is_armed}
use Rattle.rt_app.specs.Handlers.{bound_number}
use Rattle.rt_respond.specs.Limits.{Limits, every_of, delay_of, deadline_of}
use Rattle.rt_respond.specs.declared.line.Line.{Line}
use Rattle.rt_respond.specs.declared.line.Line.TheVariants as line
use Rattle.rt_respond.specs.declared.refusal.Cause.{Cause}
use Rattle.rt_respond.specs.declared.refusal.Cause.TheVariants as cause

-- a task binds the interrupt of this name
abbrev pub binds_name : App → List ℕ → Task → Bool
binds_name app name t = is_some_and (λ d. bytes_eq d.name name) (then_from t.binds (slice_get app.irqs))

-- the task that binds the interrupt of this name
abbrev pub hardware_task : App → List ℕ → Option ℕ
hardware_task app name = position (binds_name app name) app.tasks

-- a software task of this name
abbrev pub is_software_named : List ℕ → Task → Bool
is_software_named name t = is_software t && bytes_eq t.name name

-- the software task of this name
abbrev pub software_task : App → List ℕ → Option ℕ
software_task app name = position (is_software_named name) app.tasks

-- the number of the interrupt of this name, where a task binds it
abbrev pub bound_irq : App → List ℕ → Option ℕ
bound_irq app name =
    then_from (hardware_task app name) (λ n. then_from (slice_get app.tasks n) (bound_number app))

-- a task, where it is sent after a delay
abbrev pub if_armed : App → ℕ → Option ℕ
if_armed app n = if is_armed app n then Some n else None

-- the software task of this name, where it is sent after a delay
abbrev pub armed_task : App → List ℕ → Option ℕ
armed_task app name = then_from (software_task app name) (if_armed app)

-- the first of two, where there is one, else the second
abbrev pub else_second : Option ℕ → Option ℕ → Option ℕ
else_second (Some n) second = Some n
else_second None second = second

-- the task of which an interrupt or a software task of this name is
abbrev pub judged_task : App → List ℕ → Option ℕ
judged_task app name = else_second (hardware_task app name) (software_task app name)

-- a number, where it is at least 1
abbrev pub if_some : ℕ → Result ℕ Cause
if_some n = if nat_le 1 n then Ok n else Err cause.BadLine

-- the number that a word spells
abbrev pub number_of : Option ℕ → Result ℕ Cause
number_of None = Err cause.BadLine
number_of (Some n) = if_some n

-- what is said of something that a name stands for, where nothing was said of it before
abbrev pub if_new : Option ℕ → Line → Result Line Cause
if_new before said = if is_some before then Err cause.BadLine else Ok said

-- behind these limits
module _ (limits : Limits) where
  -- a least distance between requests of the interrupt of a name
  abbrev pub every_line : ℕ → Option ℕ → Result Line Cause
  every_line n None = Err cause.UnknownName
  every_line n (Some irq) = if_new (every_of limits irq) (line.Every (record { irq = irq; every = n }))

  -- a least delay of the task of a name
  abbrev pub delay_line : ℕ → Option ℕ → Result Line Cause
  delay_line n None = Err cause.UnknownName
  delay_line n (Some task) = if_new (delay_of limits task) (line.Delay (record { task = task; ticks = n }))

  -- a deadline of what a name stands for
  abbrev pub deadline_line : ℕ → Option ℕ → Result Line Cause
  deadline_line n None = Err cause.UnknownName
  deadline_line n (Some task) = if_new (deadline_of limits task) (line.Deadline (record { task = task; steps = n }))

module _ (app : App) (limits : Limits) where
  -- a least distance between ticks
  abbrev pub tick_line : ℕ → Result Line Cause
  tick_line n = if is_some app.mono then if_new limits.tick (line.Tick n) else Err cause.UnknownName

  -- what a word and a number say
  abbrev pub unnamed : List ℕ → List ℕ → Result Line Cause
  unnamed verb count =
      if bytes_eq verb (codes "tick") then and_then (number_of (short_number count)) tick_line else Err cause.BadLine

  -- what a word, a name and a number say
  abbrev pub named : List ℕ → List ℕ → ℕ → Result Line Cause
  named verb name n =
      if bytes_eq verb (codes "every") then every_line limits n (bound_irq app name)
      else if bytes_eq verb (codes "delay") then delay_line limits n (armed_task app name)
      else if bytes_eq verb (codes "deadline") then deadline_line limits n (judged_task app name) else Err cause.BadLine

  -- what the words of a line say
  abbrev pub words_tell : List (List ℕ) → Result Line Cause
  words_tell (verb ∷ count ∷ []) = unnamed verb count
  words_tell (verb ∷ name ∷ count ∷ []) =
      if is_identifier name then and_then (number_of (short_number count)) (named verb name) else Err cause.BadLine
  words_tell words = Err cause.BadLine

  -- what a line says: nothing where it is skipped
  abbrev pub limit_line : List ℕ → Result (Option Line) Cause
  limit_line line =
      if is_blank line || is_comment line then Ok None
      else if is_loose line then Err cause.BadLine else and_make (words_tell (spaced_words line)) Some
