-- What a line of a board tells, put without an order of tests: it is skipped, or names an input by its task and its
-- local resource, which no line before names. So nothing else is refused, and nothing else is read.
use Rattle.std.specs.Prelude.{◌≡◌, ◌⊎◌, ◌↔◌, ◌||◌, true, false, codes, List, [], ◌∷◌, slice_get, Some, Ok, ℕ}
use Rattle.rt_lines.specs.Parts.{spaced_words}
use Rattle.rt_script.specs.Wording.{is_blank, is_comment, is_loose}
use Rattle.rt_app.specs.declared.app.Local.{Local}
use Rattle.rt_app.specs.Tree.{Task, App}
use Rattle.rt_app.specs.Accepted.{IsAccepted}
use Rattle.rt_app.specs.Names.{names_of}
use Rattle.rt_board.specs.Board.{Board, with_input, is_written, IsInput}
use Rattle.rt_board.specs.Wording.{with_line}
use Rattle.rt_board.specs.declared.board.Input.{Input}

-- a line says nothing: it is blank, or a comment
abbrev pub IsSkipped : List ℕ → Type 0
IsSkipped line = (is_blank line || is_comment line) ≡ true

-- a line is `input T R` with the names of the task and of the local resource of this input
pub record NamesInput (app : App) (line : List ℕ) (input : Input) : Type 0 where
  pub task : Task
  pub task_is : slice_get app.tasks input.task ≡ Some task
  pub local : Local
  pub local_is : slice_get app.locals input.local ≡ Some local
  pub words : spaced_words line ≡ codes "input" ∷ task.name ∷ local.name ∷ []
  -- no space stands before the first word or behind the last
  pub tight : is_loose line ≡ false
  pub said : (is_blank line || is_comment line) ≡ false

-- an input that a line names, and that can come behind those of a board, and the board with it
abbrev pub Adds : App → Board → List ℕ → Board → Type 0
Adds app board line u = (input : Input) × (u ≡ with_input board input) × IsInput app input
    × (is_written board input.local ≡ false)
    × NamesInput app line input

-- the board behind a line
abbrev pub ComesBehind : App → Board → List ℕ → Board → Type 0
ComesBehind app board line u = (IsSkipped line × (u ≡ board)) ⊎ Adds app board line u

-- The board behind a line is the one that the line tells, and each line that tells one is right.
abbrev pub LinesAreNamed : Type 0
LinesAreNamed = (app : App) → IsAccepted app → (board : Board) (line : List ℕ) (u : Board)
    → (with_line (names_of app) app board line ≡ Ok u) ↔ ComesBehind app board line u
