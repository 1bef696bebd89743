-- What a line of a board text says. It is blank, or begins with `#` as a comment, both as in a script, or is
--     input T R
-- with a hardware task T and a local resource R that T lists, and that no line before names. One or more spaces
-- separate its words, and none stand before the first or behind the last. The form is this project's own.
use Rattle.std.specs.Prelude.{ℕ, ◌&&◌, ◌||◌, Bool, if◌then◌else◌, bytes_eq, codes, List, [], ◌∷◌, find, slice_get}
use Rattle.std.specs.Prelude.{Option, option_map, Result, Ok, Err}
use Rattle.std.specs.List.{list_any}
use Rattle.std.specs.Option.{ok_or}
use Rattle.rt_ids.specs.Lists.{is_some_and, then_from}
use Rattle.rt_ids.specs.Names.{Names, task_index}
use Rattle.rt_ids.specs.Word.{is_identifier}
use Rattle.rt_lines.specs.Answers.{and_then, and_make}
use Rattle.rt_lines.specs.Parts.{spaced_words}
use Rattle.rt_script.specs.Wording.{is_blank, is_comment, is_loose}
use Rattle.rt_app.specs.declared.app.Local.{Local}
use Rattle.rt_app.specs.declared.body.Owned.{Owned}
use Rattle.rt_app.specs.Tree.{Task, App}
use Rattle.rt_app.specs.Level.{is_software}
use Rattle.rt_board.specs.Board.{Board, with_input, is_written}
use Rattle.rt_board.specs.declared.board.Input.{Input}
use Rattle.rt_board.specs.declared.refusal.Cause.{Cause}
use Rattle.rt_board.specs.declared.refusal.Cause.TheVariants as cause

-- a local resource has this name
abbrev pub is_named : List ℕ → Local → Bool
is_named name r = bytes_eq r.name name

-- what is said of the only two words, where both are names
abbrev pub two_names : {A : Type 0} → (List ℕ → List ℕ → Result A Cause) → List (List ℕ) → Result A Cause
two_names f (a ∷ b ∷ []) = if is_identifier a && is_identifier b then f a b else Err cause.BadLine
two_names f words = Err cause.BadLine

-- a row of the table of words: the first word of a line, and the board with what the words behind it say
pub record WordRow : Type 0 where
  pub first : List ℕ
  pub says : List (List ℕ) → Result Board Cause

-- the board with what the words of a line say, by the first row of its first word
abbrev pub said_by : List WordRow → List (List ℕ) → Result Board Cause
said_by rows [] = Err cause.BadLine
said_by [] (first ∷ words) = Err cause.BadLine
said_by (row ∷ rows) (first ∷ words) =
    if bytes_eq first row.first then row.says words else said_by rows (first ∷ words)

-- the local resource of a name among these
abbrev pub local_among : List Local → List ℕ → List Owned → Option ℕ
local_among locals name listed =
    option_map (λ own. own.local) (find (λ own. is_some_and (is_named name) (slice_get locals own.local)) listed)

module _ (app : App) where
  -- a task, where it binds an interrupt
  abbrev pub if_hardware : ℕ → Result ℕ Cause
  if_hardware t = if is_some_and is_software (slice_get app.tasks t) then Err cause.SoftwareTask else Ok t

  -- the local resource of a name among those that a task lists
  abbrev pub listed_local : List ℕ → Task → Option ℕ
  listed_local name t = local_among app.locals name t.body.local

  -- the local resource of a name, where it is declared and this task lists it
  abbrev pub own_local : ℕ → List ℕ → Result ℕ Cause
  own_local t name =
      if list_any (is_named name) app.locals
      then ok_or (then_from (slice_get app.tasks t) (listed_local name)) cause.LocalOfAnother
      else Err cause.UnknownLocal

-- the names are those of the application
module _ (names : Names) (app : App) where
  -- the hardware task of a name
  abbrev pub hardware_task : List ℕ → Result ℕ Cause
  hardware_task name = and_then (ok_or (task_index names name) cause.UnknownTask) (if_hardware app)

  module _ (board : Board) where
    -- an input, where the board has none of its local resource yet
    abbrev pub if_new : ℕ → ℕ → Result Input Cause
    if_new t n = if is_written board n then Err cause.NamedTwice else Ok (record { task = t; local = n })

    -- the input of the names of a task and of a local resource
    abbrev pub input_of : List ℕ → List ℕ → Result Input Cause
    input_of task local = and_then (hardware_task task) (λ t. and_then (own_local app t local) (if_new t))

    -- the board with the input that the words behind `input` name
    abbrev pub says_input : List (List ℕ) → Result Board Cause
    says_input words = and_make (two_names input_of words) (with_input board)

    -- the table of words
    abbrev pub table : List WordRow
    table = record { first = codes "input"; says = says_input } ∷ []

    -- the board with what the words of a line say
    abbrev pub with_words : List (List ℕ) → Result Board Cause
    with_words words = said_by table words

    -- the board with what a line says: the same where it is skipped
    abbrev pub with_line : List ℕ → Result Board Cause
    with_line line =
        if is_blank line || is_comment line then Ok board
        else if is_loose line then Err cause.BadLine else with_words (spaced_words line)
