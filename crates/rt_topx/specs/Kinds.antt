-- What a command of `rticx` reads: texts of these kinds, one of each of its sources, in this order. What a text is
-- depends on those before it: a board is one of an application, a script is over both.
use Rattle.std.specs.Prelude.{◌≡◌, ℕ, List, [], ◌∷◌}
use Rattle.rt_ids.specs.declared.limits.TheConstants.{TEXT_BYTES, SCRIPT_BYTES, TRACE_BYTES}
use Rattle.rt_ids.specs.declared.status.Status.{Status}
use Rattle.rt_ids.specs.declared.status.Status.TheVariants as status
use Rattle.rt_app.specs.Names.{names_of}
use Rattle.rt_app.specs.Tree.{App}
use Rattle.rt_build.specs.Accepted.{IsApplication}
use Rattle.rt_board.specs.Board as boards
use Rattle.rt_code.specs.Image.{Image}
use Rattle.rt_given.specs.Reading.{IsGivenText}
use Rattle.rt_given.specs.declared.line.GivenLine.{GivenLine}
use Rattle.rt_image_times.specs.Text.{IsImageLimitsText}
use Rattle.rt_inputs_audit.specs.Reading.{Told, IsInputsText}
use Rattle.rt_load.specs.Reading.{IsListingText}
use Rattle.rt_load.specs.declared.refusal.TheConstants.{IMAGE_BYTES}
use Rattle.rt_rta.specs.declared.limits.Limit.{Limit}
use Rattle.rt_respond.specs.Limits as respond
use Rattle.rt_respond.specs.Text.{IsLimitsText}
use Rattle.rt_target.specs.Reading.{IsBoardOf, IsTargetOf}
use Rattle.rt_target.specs.Setup.{Setup}
use Rattle.rt_top.specs.Refusal.{RefusesApplication}
use Rattle.rt_top.specs.Program.{Inputs}
use Rattle.rt_top.specs.Verified.{RefusesListing}
use Rattle.rt_topx.specs.declared.command.Command.{Command}
use Rattle.rt_topx.specs.declared.command.Command.TheVariants as command
use Rattle.rt_topx.specs.Refusal.{RefusesBoard, RefusesTarget, RefusesLimits, RefusesImageLimits, RefusesScript}
use Rattle.rt_topx.specs.Refusal.{RefusesTrace}

-- what a text is that a command reads
pub data TextKind : Type 0 where
  Application : TextKind
  -- of the first application
  Board : TextKind
  -- a board for which a program is made
  Target : TextKind
  -- limits on the requests of the first application, and deadlines
  Limits : TextKind
  -- these are over the names of the application and the inputs of the board
  Script : TextKind
  Trace : TextKind
  -- the listing of an image, whatever made it
  Listing : TextKind
  -- limits on the requests of the interrupts of that image
  ImageLimits : TextKind

-- the kinds of the texts that a command reads
abbrev pub kinds_of : Command → List TextKind
kinds_of command.Run = Application ∷ Board ∷ Script ∷ []
kinds_of command.Audit = Application ∷ Board ∷ Trace ∷ []
kinds_of command.Live = Application ∷ Board ∷ Script ∷ []
kinds_of command.Native = Application ∷ Target ∷ []
kinds_of command.Why = Listing ∷ []
kinds_of command.Cycles = Application ∷ []
kinds_of command.Bounds = Listing ∷ []
kinds_of command.TimedBounds = Listing ∷ ImageLimits ∷ []
kinds_of command.Respond = Application ∷ Limits ∷ []

-- the most bytes of a text of the kind
abbrev pub most_bytes : TextKind → ℕ
most_bytes Application = TEXT_BYTES
most_bytes Board = SCRIPT_BYTES
most_bytes Target = SCRIPT_BYTES
most_bytes Limits = SCRIPT_BYTES
most_bytes Script = SCRIPT_BYTES
most_bytes Trace = TRACE_BYTES
most_bytes Listing = IMAGE_BYTES
most_bytes ImageLimits = SCRIPT_BYTES

-- the text is of the kind, where these are the texts that the command reads
abbrev pub IsOfKind : TextKind → Inputs → List ℕ → Type 0
IsOfKind Application t text = (app : App) × IsApplication text app
IsOfKind Board t text = (app : App) × IsApplication t.first app × (board : boards.Board) × IsBoardOf app text board
IsOfKind Target t text = (app : App) × IsApplication t.first app × (setup : Setup) × IsTargetOf app text setup
IsOfKind Limits t text =
    (app : App) × IsApplication t.first app × (limits : respond.Limits) × IsLimitsText app text limits
IsOfKind Script t text =
    (app : App) × IsApplication t.first app × (board : boards.Board) × IsBoardOf app t.second board
    × (script : List GivenLine) × IsGivenText (names_of app) app board text script
IsOfKind Trace t text =
    (app : App) × IsApplication t.first app × (board : boards.Board) × IsBoardOf app t.second board
    × (told : Told) × IsInputsText (names_of app) app board text told
IsOfKind Listing t text = (image : Image) × IsListingText text image
IsOfKind ImageLimits t text =
    (image : Image) × IsListingText t.first image × (limits : List Limit) × IsImageLimitsText image text limits

-- the text is none of the kind, and is refused with this status and this line
abbrev pub IsRefusedBy : TextKind → Inputs → List ℕ → Status → List ℕ → Type 0
IsRefusedBy Application t text ended line = (ended ≡ status.App) × RefusesApplication text line
IsRefusedBy Board t text ended line = (ended ≡ status.Text) × RefusesBoard t.first text line
IsRefusedBy Target t text ended line = (ended ≡ status.Text) × RefusesTarget t.first text line
IsRefusedBy Limits t text ended line = (ended ≡ status.Text) × RefusesLimits t.first text line
IsRefusedBy Script t text ended line = (ended ≡ status.Text) × RefusesScript t.first t.second text line
IsRefusedBy Trace t text ended line = (ended ≡ status.Text) × RefusesTrace t.first t.second text line
IsRefusedBy Listing t text ended line = (ended ≡ status.Text) × RefusesListing text line
IsRefusedBy ImageLimits t text ended line = (ended ≡ status.Text) × RefusesImageLimits t.first text line
