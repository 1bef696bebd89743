-- What a command of `rtic` reads: texts of these kinds, one of each of its sources, in this order. A kind has a bound
-- on the bytes of its texts, and a text is of its kind or is refused, not both (`OneOfEachKind`).
use Rattle.std.specs.Prelude.{◌≡◌, ℕ, List, [], ◌∷◌}
use Rattle.rt_ids.specs.declared.limits.TheConstants.{TEXT_BYTES, SCRIPT_BYTES, TRACE_BYTES}
use Rattle.rt_ids.specs.declared.status.Status.{Status}
use Rattle.rt_ids.specs.declared.status.Status.TheVariants as status
use Rattle.rt_ast.specs.Tree as tree
use Rattle.rt_grammar.specs.Text.{IsText}
use Rattle.rt_app.specs.Names.{names_of}
use Rattle.rt_app.specs.Tree.{App}
use Rattle.rt_build.specs.Accepted.{IsApplication}
use Rattle.rt_code.specs.Image.{Image}
use Rattle.rt_load.specs.Reading.{IsListingText}
use Rattle.rt_load.specs.declared.refusal.TheConstants.{IMAGE_BYTES}
use Rattle.rt_rta.specs.Text.{IsLimitsText}
use Rattle.rt_rta.specs.declared.limits.Limit.{Limit}
use Rattle.rt_script.specs.Text.{IsScriptText}
use Rattle.rt_script.specs.declared.line.Line.{Line}
use Rattle.rt_trace.specs.Reading.{IsTraceText}
use Rattle.rt_trace.specs.Trace as read
use Rattle.rt_top.specs.Words.{Command, Run, Check, Fmt, Build, Audit, Live, Soak, Demo, Deepest, Times, Verify, Pair}
use Rattle.rt_top.specs.Refusal.{RefusesText, RefusesApplication, RefusesOther}
use Rattle.rt_top.specs.SecondRefusal.{RefusesScript, RefusesTrace, RefusesLimits}
use Rattle.rt_top.specs.Verified.{RefusesListing}

-- what a text is that a command reads
pub data TextKind : Type 0 where
  -- an application that need only be in the grammar and within the limits
  Tree : TextKind
  -- one that breaks no rule
  Application : TextKind
  -- a second one
  OtherApplication : TextKind
  -- these are over the names of the first application
  Script : TextKind
  Trace : TextKind
  Limits : TextKind
  -- the listing of an image, whatever made it
  Listing : TextKind

-- the kinds of the texts that a command reads
abbrev pub kinds_of : Command → List TextKind
kinds_of Run = Application ∷ Script ∷ []
kinds_of Check = Application ∷ []
kinds_of Fmt = Tree ∷ []
kinds_of Build = Application ∷ []
kinds_of Audit = Application ∷ Trace ∷ []
kinds_of Live = Application ∷ Script ∷ []
kinds_of (Soak number count workers) = Application ∷ []
kinds_of (Demo n) = []
kinds_of Deepest = Application ∷ []
kinds_of Times = Application ∷ Limits ∷ []
kinds_of Verify = Listing ∷ []
kinds_of Pair = Application ∷ OtherApplication ∷ Script ∷ []

-- the most bytes of a text of the kind
abbrev pub most_bytes : TextKind → ℕ
most_bytes Tree = TEXT_BYTES
most_bytes Application = TEXT_BYTES
most_bytes OtherApplication = TEXT_BYTES
most_bytes Script = SCRIPT_BYTES
most_bytes Trace = TRACE_BYTES
most_bytes Limits = SCRIPT_BYTES
most_bytes Listing = IMAGE_BYTES

-- the text is of the kind; `first` is the first text that the command reads
abbrev pub IsOfKind : TextKind → List ℕ → List ℕ → Type 0
IsOfKind Tree first text = (a : tree.App) × IsText text a
IsOfKind Application first text = (app : App) × IsApplication text app
IsOfKind OtherApplication first text = (app : App) × IsApplication text app
IsOfKind Script first text =
    (app : App) × IsApplication first app × (asked : List Line) × IsScriptText (names_of app) text asked
IsOfKind Trace first text =
    (app : App) × IsApplication first app × (shown : read.Trace) × IsTraceText (names_of app) text shown
IsOfKind Limits first text =
    (app : App) × IsApplication first app × (limits : List Limit) × IsLimitsText app text limits
IsOfKind Listing first text = (image : Image) × IsListingText text image

-- the text is none of the kind, and is refused with this status and this line
abbrev pub IsRefusedBy : TextKind → List ℕ → List ℕ → Status → List ℕ → Type 0
IsRefusedBy Tree first text ended line = (ended ≡ status.App) × RefusesText text line
IsRefusedBy Application first text ended line = (ended ≡ status.App) × RefusesApplication text line
IsRefusedBy OtherApplication first text ended line = (ended ≡ status.App) × RefusesOther text line
IsRefusedBy Script first text ended line = (ended ≡ status.Text) × RefusesScript first text line
IsRefusedBy Trace first text ended line = (ended ≡ status.Text) × RefusesTrace first text line
IsRefusedBy Limits first text ended line = (ended ≡ status.Text) × RefusesLimits first text line
IsRefusedBy Listing first text ended line = (ended ≡ status.Text) × RefusesListing text line
