-- What the text of a run with inputs says: it is of a run of Baker's machine beside devices, which put the words that
-- the script gives.
use Rattle.std.specs.Prelude.{◌≡◌, ℕ, List}
use Rattle.rt_ids.specs.Event.{Event, steps}
use Rattle.rt_app.specs.Tree.{App}
use Rattle.rt_app.specs.Accepted.{IsAccepted}
use Rattle.rt_build.specs.Image.{IsImageOf}
use Rattle.rt_code.specs.Image.{Image}
use Rattle.rt_laws.specs.DeviceWords.{WithWords, things}
use Rattle.rt_script.specs.Script.{IsScript, HasNames, events}
use Rattle.rt_run.specs.Written.{text_of}
use Rattle.rt_sim.specs.Beside.{shown_beside, RunsWellBeside}
use Rattle.rt_board.specs.Board.{Board, no_board, AreInputs}
use Rattle.rt_given.specs.Given.{asked, GiveInputs}
use Rattle.rt_given.specs.declared.line.GivenLine.{GivenLine}
use Rattle.rt_inputs.specs.Script.{moves_under, text_with_inputs}
use Rattle.rt_inputs.specs.Shown.{text_of_moves}

-- A text is that of a run of an image under a script beside devices. The labels and words that it shows line by line
-- are a run of Baker's machine, and all that holds of a good image holds of it.
pub record IsRunWithInputs (app : App) (img : Image) (board : Board) (script : List GivenLine) (text : List ℕ)
    : Type 0 where
  pub moves : List (WithWords Event)
  -- the events are those of the script
  pub events_are : things moves ≡ events (asked script)
  -- before a take devices put what their registers hold, and at no other moment
  pub words_are : moves ≡ moves_under app img board script
  pub well : RunsWellBeside app img moves
  pub text_is : text ≡ text_of_moves app (shown_beside app img moves) (steps (things moves))

-- The text of a run with inputs is that of a run of Baker's machine beside devices.
abbrev pub RunsWithInputsAreShown : Type 0
RunsWithInputsAreShown =
    (app : App) (img : Image) → IsAccepted app → IsImageOf app img → (board : Board) → AreInputs app board.inputs
    → (script : List GivenLine) → IsScript (asked script) → HasNames img.names (asked script)
    → GiveInputs board script
    → IsRunWithInputs app img board script (text_with_inputs app img board script)

-- On a board without inputs the text is that of the run of the script that is left without words.
abbrev pub RunsWithoutInputsAreRuns : Type 0
RunsWithoutInputsAreRuns =
    (app : App) (img : Image) → IsImageOf app img → (script : List GivenLine)
    → text_with_inputs app img no_board script ≡ text_of img (asked script)
