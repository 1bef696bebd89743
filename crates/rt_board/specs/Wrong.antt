-- What each refusal says of its line, put without an order of tests. The causes stand in the order of their numbers,
-- and each says also that those before it do not hold, so that a line has one cause.
use Rattle.std.specs.Prelude.{◌≡◌, ℕ, ◌||◌, true, false, codes, Contains, List, [], ◌∷◌, map, slice_get, Some, Err}
use Rattle.rt_ids.specs.Word.{is_identifier}
use Rattle.rt_lines.specs.Parts.{spaced_words}
use Rattle.rt_script.specs.Wording.{is_blank, is_comment, is_loose}
use Rattle.rt_app.specs.declared.app.Local.{Local}
use Rattle.rt_app.specs.Tree.{Task, App}
use Rattle.rt_app.specs.Level.{is_software}
use Rattle.rt_app.specs.Names.{names_of}
use Rattle.rt_board.specs.Board.{Board}
use Rattle.rt_board.specs.Wording.{with_line}
use Rattle.rt_board.specs.declared.board.Input.{Input}
use Rattle.rt_board.specs.declared.refusal.Cause.{Cause}
use Rattle.rt_board.specs.declared.refusal.Cause.TheVariants as cause

-- a line is `input T R` with these names
pub record HasForm (line task local : List ℕ) : Type 0 where
  pub words : spaced_words line ≡ codes "input" ∷ task ∷ local ∷ []
  pub task_name : is_identifier task ≡ true
  pub local_name : is_identifier local ≡ true
  -- no space stands before the first word or behind the last
  pub tight : is_loose line ≡ false
  pub said : (is_blank line || is_comment line) ≡ false

module _ (app : App) where
  -- a task has this name
  pub record HasTask (name : List ℕ) (t : Task) : Type 0 where
    pub index : ℕ
    pub task_is : slice_get app.tasks index ≡ Some t
    pub named : t.name ≡ name

  -- the local resource of this index has this name
  pub record HasLocal (name : List ℕ) (n : ℕ) : Type 0 where
    pub local : Local
    pub local_is : slice_get app.locals n ≡ Some local
    pub named : local.name ≡ name

  -- a task lists a local resource
  abbrev pub Lists : Task → ℕ → Type 0
  Lists t n = Contains (map (λ o. o.local) t.body.local) n

  -- what is wrong with a line behind lines that name these inputs
  abbrev pub IsWrong : List Input → List ℕ → Cause → Type 0
  IsWrong inputs line cause.BadLine =
      ((is_blank line || is_comment line) ≡ false) × ((task local : List ℕ) → ¬ HasForm line task local)
  IsWrong inputs line cause.UnknownTask =
      (task local : List ℕ) × HasForm line task local × ((t : Task) → ¬ HasTask task t)
  IsWrong inputs line cause.SoftwareTask =
      (task local : List ℕ) × HasForm line task local × (t : Task) × HasTask task t × (is_software t ≡ true)
  IsWrong inputs line cause.UnknownLocal =
      (task local : List ℕ) × HasForm line task local × (t : Task) × HasTask task t × (is_software t ≡ false)
      × ((n : ℕ) → ¬ HasLocal local n)
  IsWrong inputs line cause.LocalOfAnother =
      (task local : List ℕ) × HasForm line task local × (t : Task) × HasTask task t × (is_software t ≡ false)
      × (n : ℕ) × HasLocal local n × (¬ Lists t n)
  IsWrong inputs line cause.NamedTwice =
      (task local : List ℕ) × HasForm line task local × (t : Task) × HasTask task t × (is_software t ≡ false)
      × (n : ℕ) × HasLocal local n × Lists t n × Contains (map (λ input. input.local) inputs) n

-- A line is refused for what is wrong with it.
abbrev pub RefusedLinesAreWrong : Type 0
RefusedLinesAreWrong = (app : App) (board : Board) (line : List ℕ) (c : Cause)
    → with_line (names_of app) app board line ≡ Err c
    → IsWrong app board.inputs line c
