-- What each command writes where its texts are not refused. All of it is this project's own.
use Rattle.std.specs.Prelude.{◌≡◌, ℕ, List, ◌++◌, codes, decimal, length}
use Rattle.rt_ids.specs.declared.status.Status.{Status}
use Rattle.rt_ids.specs.declared.status.Status.TheVariants as status
use Rattle.rt_app.specs.Bounds.{bounds}
use Rattle.rt_app.specs.Names.{names_of}
use Rattle.rt_app.specs.Tree.{App}
use Rattle.rt_baker.specs.declared.verdict.Verdict.{Verdict}
use Rattle.rt_baker.specs.declared.verdict.Verdict.TheVariants as judged
use Rattle.rt_build.specs.Accepted.{IsApplication}
use Rattle.rt_code.specs.Image.{Image}
use Rattle.rt_cycles.specs.Report.{report}
use Rattle.rt_listing.specs.Listing.{listing}
use Rattle.rt_sim.specs.Beside.{CountsFitBeside, RunsWellBeside}
use Rattle.rt_sim.specs.Good.{AreDeclared}
use Rattle.rt_board.specs.Board.{Board, AreInputs}
use Rattle.rt_given.specs.Reading.{IsGivenText}
use Rattle.rt_given.specs.declared.line.GivenLine.{GivenLine}
use Rattle.rt_inputs.specs.Inputs.{Happening, AreWords, events_of, moves_of}
use Rattle.rt_inputs.specs.Runs.{IsRunWithInputs}
use Rattle.rt_inputs.specs.Script.{text_with_inputs}
use Rattle.rt_live_inputs.specs.Output.{IsLiveText, happened}
use Rattle.rt_inputs_audit.specs.Audit.{IsVerdictBeside}
use Rattle.rt_inputs_audit.specs.Reading.{Told, IsInputsText}
use Rattle.rt_target.specs.Reading.{IsBoardOf, IsTargetOf}
use Rattle.rt_target.specs.Setup.{Setup}
use Rattle.rt_native.specs.Target.{Target}
use Rattle.rt_native_runs.specs.FromFile.{FileRuns}
use Rattle.rt_native_runs.specs.Running.{LinkedRuns}
use Rattle.rt_top.specs.Outputs.{IsGoodOf, IsGoodImage}
use Rattle.rt_topx.specs.Executable.{IsMade}
use Rattle.rt_topx.specs.Target.{target_of}

-- The image is good beside the devices of a board: whatever happens to it, core steps, ticks, arrivals of declared
-- interrupts, and words of 32 bits for the registers of the board's inputs, in any number and at any moment, what it
-- shows is a run of Baker's machine, which takes the words that the devices put, with all that `RunsWellBeside` says.
-- There may be as many events as the counts of the monotonic allow, and without a monotonic any number.
abbrev pub IsGoodBeside : App → Image → Board → Type 0
IsGoodBeside app image board =
    (happenings : List Happening) → AreWords happenings → AreDeclared app (events_of happenings)
    → CountsFitBeside app image (moves_of app image board happenings)
    → RunsWellBeside app image (moves_of app image board happenings)

-- `run`: the listing of a good image, which is good beside the devices of the board too, and that image's trace under
-- the script, with the words that the devices put and its total of core steps. That text is of a run of Baker's machine
-- beside devices, in which the words are those that the script gives.
pub record IsRun (text beside more bytes : List ℕ) : Type 0 where
  pub app : App
  pub image : Image
  pub is : IsGoodImage text app image
  pub board : Board
  pub of_board : IsBoardOf app beside board
  pub inputs : AreInputs app board.inputs
  pub good : IsGoodBeside app image board
  pub script : List GivenLine
  pub read : IsGivenText (names_of app) app board more script
  pub written : bytes ≡ listing image ++ codes "trace\n" ++ text_with_inputs app image board script
  pub runs : IsRunWithInputs app image board script (text_with_inputs app image board script)

-- the status and the line for a verdict: how many lines are right, or the number of the first that is not
abbrev pub Says : Told → Verdict → Status → List ℕ → Type 0
Says told judged.Yes ended bytes =
    (ended ≡ status.Done) × (bytes ≡ codes "yes " ++ decimal (length told.lines) ++ codes "\n")
Says told (judged.No number) ended bytes =
    (ended ≡ status.No) × (bytes ≡ codes "no " ++ decimal number ++ codes "\n")

-- `audit`: whether the trace is a run of Baker's machine on the application beside the devices of the board, within the
-- stack bound. Items and words of devices are counted alike.
pub record IsAudited (text beside more : List ℕ) (ended : Status) (bytes : List ℕ) : Type 0 where
  pub app : App
  pub of_text : IsApplication text app
  pub board : Board
  pub of_board : IsBoardOf app beside board
  pub told : Told
  pub read : IsInputsText (names_of app) app board more told
  pub verdict : Verdict
  pub is : IsVerdictBeside app board told.lines told.total verdict
  pub says : Says told verdict ended bytes

-- `live`: the listing of a good image, which is good beside the devices of the board too, and then what the image may
-- write beside the devices of the script: a trace with the words that they gave, and the account of every request of
-- every device. What the image does under the script's own lines with what its looks found is a run of Baker's machine
-- beside devices.
pub record IsLiveBeside (text beside more bytes : List ℕ) : Type 0 where
  pub app : App
  pub image : Image
  pub is : IsGoodImage text app image
  pub board : Board
  pub of_board : IsBoardOf app beside board
  pub inputs : AreInputs app board.inputs
  pub good : IsGoodBeside app image board
  pub script : List GivenLine
  pub read : IsGivenText (names_of app) app board more script
  pub shown : List ℕ
  pub live : IsLiveText app image board script shown
  pub written : bytes ≡ listing image ++ codes "trace\n" ++ shown
  pub runs : RunsWellBeside app image (moves_of app image board (happened script live.found))

-- What is written does on a chip, from reset on, what the image does: no fault comes, what others see of the processor is
-- what the image shows, which is a run of Baker's machine beside devices, and the stack is within its bound and a tick's
-- frame.
pub record RunsOnChip (app : App) (image : Image) (target : Target) (bytes : List ℕ) : Type 0 where
  -- an executable, on each processor whose memory holds these bytes, loaded as an executable file is
  pub executable : FileRuns app image target bytes
  -- the program of an object, once it is linked with functions of C, beside these, which keep to what is theirs; that
  -- memory has the program is the linker's matter, so nothing is said of bytes
  pub object : LinkedRuns app image target

-- `native`: the executable of a good image, which is good beside the devices of the board too, for the chip of the
-- board; or, where the image does not fit, the line of the board's text that is too small for it.
pub record IsMadeNative (text beside : List ℕ) (ended : Status) (bytes : List ℕ) : Type 0 where
  pub app : App
  pub of_text : IsApplication text app
  pub image : Image
  pub is : IsGoodOf app image
  pub setup : Setup
  pub of_board : IsTargetOf app beside setup
  pub inputs : AreInputs app setup.board.inputs
  pub good : IsGoodBeside app image setup.board
  pub made : IsMade app image beside setup ended bytes
  -- The file that is written does on the chip's processor, from reset on, what the image does.
  pub simulates : ended ≡ status.Done → RunsOnChip app image (target_of app setup) bytes

-- `cycles`: what a good image costs on a Cortex-M4, in cycles, and what `check` counts in steps, each step at most
pub record IsCycles (text bytes : List ℕ) : Type 0 where
  pub app : App
  pub of_text : IsApplication text app
  pub image : Image
  pub is : IsGoodOf app image
  pub written : bytes ≡ report image app (bounds app)
