-- What an audit says of the lines of a trace with inputs: that they are those of a run of Baker's machine (Stack-Based
-- Scheduling of Realtime Processes, 1991) beside devices, and then it keeps the laws that every such run keeps; or
-- which line is the first that is wrong. Lines of inputs count as those of items do. It is said by whole runs; the code
-- follows the machine line by line.
use Rattle.std.specs.Prelude.{◌≡◌, ℕ, suc, ◌<◌, ◌≤◌, ◌⊎◌, List, ◌++◌, length, take, Option, None}
use Rattle.std.specs.List.{AllByRecursion}
use Rattle.rt_trace.specs.Label.{Label, steps_of}
use Rattle.rt_app.specs.Tree.{App}
use Rattle.rt_laws.specs.State.{first}
use Rattle.rt_laws.specs.Run.{IsWithinStack, StatesTotal}
use Rattle.rt_laws.specs.Properties.{KeepsLaws}
use Rattle.rt_laws.specs.DeviceWords.{WithWords, things, RunsBeside}
use Rattle.rt_laws.specs.LawsBeside.{KeepsMessagesBeside}
use Rattle.rt_baker.specs.declared.verdict.Verdict.{Verdict}
use Rattle.rt_baker.specs.declared.verdict.Verdict.TheVariants as verdict
use Rattle.rt_board.specs.Board.{Board}
use Rattle.rt_inputs.specs.Shown.{ShownLine, Shows, Input, lines_of_moves}
use Rattle.rt_inputs_audit.specs.Given.{GivesInputs}

-- the depth that a take states is within the stack bound
abbrev pub ShowsWithinStack : App → ShownLine → Type 0
ShowsWithinStack app (Shows item) = IsWithinStack app item.what
ShowsWithinStack app (Input step local word) = Unit {0}

-- The lines are judged right: they are those of a run of Baker's machine beside devices, of as many core steps as are
-- stated, in which devices put words as the board says, and depths are within the stack bound.
pub record JudgedBeside (app : App) (board : Board) (lines : List ShownLine) (total : Option ℕ) : Type 0 where
  pub moves : List (WithWords Label)
  pub runs : RunsBeside app (first app) moves
  pub gives : GivesInputs app board moves
  pub shows : lines_of_moves moves ≡ lines
  pub stated : StatesTotal total (steps_of (things moves))
  pub depths : AllByRecursion (ShowsWithinStack app) lines

-- They are judged right, and the run keeps the laws of sections and of messages that every run beside devices keeps.
pub record IsRightBeside (app : App) (board : Board) (lines : List ShownLine) (total : Option ℕ) : Type 0 where
  pub judged : JudgedBeside app board lines total
  pub laws : KeepsLaws app (things judged.moves)
  pub messages : KeepsMessagesBeside app judged.moves

-- Lines that are judged right begin with the first n lines. Those may end behind a take, in front of its inputs.
abbrev pub Begins : App → Board → List ShownLine → ℕ → Type 0
Begins app board lines n = (more : List ShownLine) × JudgedBeside app board (take n lines ++ more) None

-- With the line after the first n no such lines begin; or the n lines are all that there are.
abbrev pub IsWrongBehind : App → Board → List ShownLine → ℕ → Type 0
IsWrongBehind app board lines n =
    ((n < length lines) × (Begins app board lines (suc n) → ⊥)) ⊎ (n ≡ length lines)

-- They are not judged right, and the first line that is wrong has this number, from 1. Where inputs are missing behind
-- the last take, or the total is wrong, it is the number after the last line's.
pub record IsWrongAt (app : App) (board : Board) (lines : List ShownLine) (total : Option ℕ) (number : ℕ) : Type 0
  where
    pub before : ℕ
    pub number_is : number ≡ suc before
    pub right : (n : ℕ) → n ≤ before → Begins app board lines n
    pub wrong : IsWrongBehind app board lines before
    pub not_judged : JudgedBeside app board lines total → ⊥

-- the verdict on the lines of a trace with inputs, which states this total, or none
abbrev pub IsVerdictBeside : App → Board → List ShownLine → Option ℕ → Verdict → Type 0
IsVerdictBeside app board lines total verdict.Yes = IsRightBeside app board lines total
IsVerdictBeside app board lines total (verdict.No number) = IsWrongAt app board lines total number
