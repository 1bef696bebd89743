-- What a good image shows under a script beside devices is what is to be written.
use Rattle.std.proofs.Common.{ℕ, List, sym, subst}
use Rattle.std.specs.Str.Lines.{lines}
use Rattle.rt_ids.specs.Names.{Names}
use Rattle.rt_ids.specs.declared.status.Status.{Status}
use Rattle.rt_app.specs.Names.{names_of}
use Rattle.rt_app.specs.Tree.{App}
use Rattle.rt_build.specs.Accepted.{IsApplication}
use Rattle.rt_code.specs.Image.{Image}
use Rattle.rt_board.specs.Board.{Board, AreInputs}
use Rattle.rt_target.specs.Reading.{IsBoardOf}
use Rattle.rt_given.specs.Given.{asked}
use Rattle.rt_given.specs.Reading.{IsGivenText}
use Rattle.rt_given.specs.declared.line.GivenLine.{GivenLine}
use Rattle.rt_given.proofs.Told.{lead_right}
use Rattle.rt_inputs.specs.Runs.{IsRunWithInputs}
use Rattle.rt_inputs.specs.Script.{text_with_inputs}
use Rattle.rt_inputs.proofs.Free.{runs_with_inputs_are_good}
use Rattle.rt_inputs.proofs.Proved.{runs_are_shown}
use Rattle.rt_script.specs.Script.{HasNames}
use Rattle.rt_top.specs.Program.{Inputs}
use Rattle.rt_top.specs.Outputs.{IsGoodOf}
use Rattle.rt_topx.specs.declared.command.Command.TheVariants as command
use Rattle.rt_topx.specs.Rticx.{IsOutputOf}
use Rattle.rt_topx.specs.Inside.Started.{ShowsRun}
use Rattle.rt_topx.proofs.Scripted.{scripted}

shown : (app : App) (image : Image) → IsGoodOf app image → (board : Board) → AreInputs app board.inputs
    → (text : List ℕ) (script : List GivenLine) → IsGivenText (names_of app) app board text script
    → IsRunWithInputs app image board script (text_with_inputs app image board script)
shown app image good board inputs text script read =
    let right = lead_right (names_of app) app board (lines text) script read.lead in
    runs_are_shown app image good.accepted good.of_application board inputs script
    (scripted (names_of app) app board text script read)
    (subst (λ (n : Names). HasNames n (asked script)) (sym good.of_application.tables.names) right.named) right.inputs

pub ran : (t : Inputs) (app : App) → IsApplication t.first app → (board : Board) → IsBoardOf app t.second board
    → AreInputs app board.inputs → (image : Image) → IsGoodOf app image → (script : List GivenLine)
    → IsGivenText (names_of app) app board t.third script → (ended : Status) (bytes : List ℕ)
    → ShowsRun app image board script ended bytes → IsOutputOf command.Run t ended bytes
ran t app of_text board of_board inputs image good script read ended bytes (is, numbers, written) = (
  is,
  record {
    app = app;
    image = image;
    is = record { of_text = of_text; good = good; numbers = numbers };
    board = board;
    of_board = of_board;
    inputs = inputs;
    good = runs_with_inputs_are_good app image good.accepted good.of_application board inputs;
    script = script;
    read = read;
    written = written;
    runs = shown app image good board inputs t.third script read;
  },
)
