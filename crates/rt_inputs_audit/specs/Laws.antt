-- What holds of runs with inputs, as an audit sees them.
use Rattle.std.specs.Prelude.{◌≡◌, ℕ, ◌^◌, ◌<◌, ◌≤◌, Contains, List, [], ◌∷◌, ◌++◌, length, map, codes, decimal, Some}
use Rattle.std.specs.List.{AllByRecursion}
use Rattle.rt_ids.specs.Names.{Names}
use Rattle.rt_ids.specs.declared.limits.TheConstants.{TRACE_BYTES}
use Rattle.rt_lines.specs.Parts.{lines}
use Rattle.rt_lines.specs.Reading.{IsReadOneWay}
use Rattle.rt_trace.specs.Label.{steps_of}
use Rattle.rt_trace.specs.Lined.{HasLine}
use Rattle.rt_trace.specs.Text.{item_line}
use Rattle.rt_trace.specs.TraceLines.{IsListing}
use Rattle.rt_app.specs.Names.{names_of}
use Rattle.rt_app.specs.Tree.{App}
use Rattle.rt_app.specs.Accepted.{IsAccepted}
use Rattle.rt_build.specs.Image.{IsImageOf}
use Rattle.rt_code.specs.Image.{Image}
use Rattle.rt_laws.specs.DeviceWords.{things}
use Rattle.rt_sim.specs.Beside.{shown_beside, CountsFitBeside}
use Rattle.rt_sim.specs.Good.{AreDeclared}
use Rattle.rt_board.specs.Board.{Board, AreInputs}
use Rattle.rt_inputs.specs.Inputs.{Happening, AreWords, events_of, moves_of}
use Rattle.rt_inputs.specs.Shown.{ShownLine, Shows, Input, input_line, lines_of_moves}
use Rattle.rt_inputs_audit.specs.Audit.{ShowsWithinStack, IsRightBeside}
use Rattle.rt_inputs_audit.specs.Given.{GivesInputs}
use Rattle.rt_inputs_audit.specs.Reading.{inputs_reader, IsInputsText}

-- Each text that is not too long is read, or has a first wrong line, not both, and in one way.
abbrev pub AreReadOneWay : Type 0
AreReadOneWay = (names : Names) (app : App) (board : Board) → IsReadOneWay (inputs_reader names app board)

-- Whatever happens beside devices, they put words as an audit asks: just before each take the inputs of its task.
abbrev pub RunsGiveInputs : Type 0
RunsGiveInputs =
    (app : App) (img : Image) (board : Board) (happenings : List Happening)
    → GivesInputs app board (shown_beside app img (moves_of app img board happenings))

-- What a run with inputs shows is judged right, with its count of core steps, where the depths that it shows are within
-- the stack bound, as those of an image are.
abbrev pub RunsWithInputsAreRight : Type 0
RunsWithInputsAreRight =
    (app : App) (img : Image) → IsAccepted app → IsImageOf app img → (board : Board) → AreInputs app board.inputs
    → (happenings : List Happening) → AreWords happenings → AreDeclared app (events_of happenings)
    → CountsFitBeside app img (moves_of app img board happenings)
    → let moves = shown_beside app img (moves_of app img board happenings) in
    AllByRecursion (ShowsWithinStack app) (lines_of_moves moves)
    → IsRightBeside app board (lines_of_moves moves) (Some (steps_of (things moves)))

-- a line that a text may have: the item has one, or an input of the board has a word of 32 bits
abbrev pub HasOwnLine : App → Board → ShownLine → Type 0
HasOwnLine app board (Shows item) = HasLine (names_of app) item
HasOwnLine app board (Input step local word) =
    (step < 2 ^ 31) × Contains (map (λ input. input.local) board.inputs) local × (word < 2 ^ 32)

-- the line, without its line feed
abbrev pub shown_line_text : App → ShownLine → List ℕ
shown_line_text app (Shows item) = item_line (names_of app) item
shown_line_text app (Input step local word) = input_line app step local word

-- A text of a listing, of such lines and of a total is read as what they show.
abbrev pub WrittenLinesAreRead : Type 0
WrittenLinesAreRead =
    (app : App) → IsAccepted app → (board : Board) → AreInputs app board.inputs → (shown : List ShownLine) (total : ℕ)
    → AllByRecursion (HasOwnLine app board) shown → total < 2 ^ 32
    → (heading : List (List ℕ)) → IsListing heading
    → (text : List ℕ) → length text ≤ TRACE_BYTES
    → lines text ≡ heading ++ (map (shown_line_text app) shown ++ (codes "total " ++ decimal total) ∷ [])
    → IsInputsText (names_of app) app board text (record { lines = shown; total = Some total })
