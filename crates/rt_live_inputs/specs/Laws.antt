-- What a look of `live` finds in a mailbox, and what a run is worth.
use Rattle.std.specs.Prelude.{◌≡◌, ℕ, List, ◌∷◌, ◌++◌, length, slice_get, Some}
use Rattle.rt_app.specs.Tree.{App}
use Rattle.rt_app.specs.Accepted.{IsAccepted}
use Rattle.rt_build.specs.Image.{IsImageOf}
use Rattle.rt_code.specs.Image.{Image}
use Rattle.rt_sim.specs.Beside.{CountsFitBeside, RunsWellBeside}
use Rattle.rt_sim.specs.Good.{AreDeclared}
use Rattle.rt_board.specs.Board.{Board, AreInputs}
use Rattle.rt_given.specs.Given.{GiveInputs}
use Rattle.rt_inputs.specs.Inputs.{events_of, moves_of}
use Rattle.rt_values.specs.declared.call.Given.{Given}
use Rattle.rt_values.specs.declared.call.Call.{Call}
use Rattle.rt_values.specs.declared.call.Call.TheVariants.{Give, Take}
use Rattle.rt_values.specs.History.{takes}
use Rattle.rt_given.specs.declared.line.GivenLine.{GivenLine}
use Rattle.rt_live_inputs.specs.Boxes.{boxes}
use Rattle.rt_live_inputs.specs.declared.boxes.BoxKind.{BoxKind as Box}
use Rattle.rt_live_inputs.specs.Looking.{Found, happenings_of, turns}
use Rattle.rt_live_inputs.specs.Histories.{AreHistories, IsBoxHistory, waited_in}

-- In this history of a mailbox the take of the look of this number stands right behind a give of this word.
pub record IsLatestAt (history : List Call) (look word : ℕ) : Type 0 where
  pub earlier : List Call
  pub answer : Given
  pub behind : List Call
  pub is : history ≡ earlier ++ Give word answer ∷ Take (Some word) ∷ behind
  pub looks : length (takes earlier) ≡ look

-- The word that a look finds in a mailbox was given by its device, and is the latest given before the look: no later
-- give stands before it, and no other look has found it.
abbrev pub LooksFindTheLatest : Type 0
LooksFindTheLatest =
    (script : List GivenLine) (found : List Found) (k : ℕ) (box : Box) (history : List Call)
    → IsBoxHistory script found k box history → (look : ℕ) (one : Found) (word : ℕ)
    → slice_get found look ≡ Some one → waited_in k one ≡ Some word
    → IsLatestAt history look word

-- Whatever the looks find, the image runs well: all that holds of a good image holds, with Baker's machine taking the
-- words that the devices gave.
abbrev pub LiveRunsAreGood : Type 0
LiveRunsAreGood =
    (app : App) (img : Image) → IsAccepted app → IsImageOf app img → (board : Board) → AreInputs app board.inputs
    → (script : List GivenLine) (found : List Found) → GiveInputs board script → AreHistories script found
    → AreDeclared app (events_of (happenings_of (boxes script) (turns script) found))
    → CountsFitBeside app img (moves_of app img board (happenings_of (boxes script) (turns script) found))
    → RunsWellBeside app img (moves_of app img board (happenings_of (boxes script) (turns script) found))
