-- What each command writes where its texts are not refused.
use Rattle.std.specs.Prelude.{◌≡◌, ◌<◌, ℕ, true, false, List, ◌++◌, codes, decimal, length}
use Rattle.rt_ids.specs.declared.limits.TheConstants.{TRACE_BYTES}
use Rattle.rt_ids.specs.declared.status.Status.{Status}
use Rattle.rt_ids.specs.declared.status.Status.TheVariants as status
use Rattle.rt_ast.specs.Tree as tree
use Rattle.rt_ast.specs.Canonical.{canonical}
use Rattle.rt_grammar.specs.Text.{IsText}
use Rattle.rt_app.specs.Accepted.{IsAccepted}
use Rattle.rt_app.specs.Tree.{App}
use Rattle.rt_app.specs.Bounds.{bounds}
use Rattle.rt_app.specs.Ceiling.{ceilings}
use Rattle.rt_app.specs.Forms.{has_response_times, has_deepest_script}
use Rattle.rt_app.specs.Names.{names_of}
use Rattle.rt_baker.specs.Audit.{IsVerdict}
use Rattle.rt_baker.specs.declared.verdict.Verdict.{Verdict}
use Rattle.rt_baker.specs.declared.verdict.Verdict.TheVariants as judged
use Rattle.rt_build.specs.Accepted.{IsApplication}
use Rattle.rt_build.specs.Built.{IsBuilt}
use Rattle.rt_build.specs.Image.{IsImageOf}
use Rattle.rt_code.specs.Image.{Image}
use Rattle.rt_code.specs.Listable.{IsListable}
use Rattle.rt_code.specs.Runnable.{IsRunnable}
use Rattle.rt_count.specs.Text.{summary_text}
use Rattle.rt_count.specs.declared.summary.Summary.{Summary}
use Rattle.rt_listing.specs.Listing.{listing}
use Rattle.rt_listing.specs.Numbers.{HasTypedNumbers}
use Rattle.rt_live.specs.Interleaving.{turns, interleaving}
use Rattle.rt_live.specs.Output.{IsLiveText}
use Rattle.rt_reach.specs.Reached.{ReachesTheBound}
use Rattle.rt_report.specs.Report.{report}
use Rattle.rt_rta.specs.Report.{report as times_report}
use Rattle.rt_rta.specs.Response.{AreResponseTimes}
use Rattle.rt_rta.specs.Text.{IsLimitsText}
use Rattle.rt_rta.specs.declared.limits.Limit.{Limit}
use Rattle.rt_rta.specs.declared.response.ResponseTime.{ResponseTime}
use Rattle.rt_script.specs.Script.{events}
use Rattle.rt_script.specs.Text.{IsScriptText}
use Rattle.rt_script.specs.declared.line.Line.{Line}
use Rattle.rt_sim.specs.Good.{Good, RunsWell}
use Rattle.rt_sim.specs.Responding.{RespondsInTime, RespondsInTimeOnceInitEnds}
use Rattle.rt_soak.specs.Soak.{IsSoak}
use Rattle.rt_run.specs.Written.{text_of}
use Rattle.rt_trace.specs.Reading.{IsTraceText}
use Rattle.rt_trace.specs.Trace.{Trace}

-- `fmt`: the canonical text of the tree
abbrev pub IsFormatted : List ℕ → List ℕ → Type 0
IsFormatted text bytes = (a : tree.App) × IsText text a × (bytes ≡ canonical a)

-- what `check` tells of an application
abbrev pub check_report : App → List ℕ
check_report app = report app (ceilings app) (bounds app)

-- `check`: the ceilings, costs, frames and bounds of the application
abbrev pub IsCheckReport : List ℕ → List ℕ → Type 0
IsCheckReport text bytes = (app : App) × IsApplication text app × (bytes ≡ check_report app)

-- The image that `build` makes of an accepted application, which a core runs, and which is good: whatever happens to
-- it, what it shows is a run of Baker's machine on the application, within the printed bounds. Each name that its
-- listing needs is there. There is one such image of an application (`OneImageIsBuilt`).
pub record IsGoodOf (app : App) (image : Image) : Type 0 where
  pub accepted : IsAccepted app
  pub of_application : IsImageOf app image
  pub built : IsBuilt app image
  pub runnable : IsRunnable image
  pub listable : IsListable image
  pub good : Good app image

-- A good image of the application of a text. Its numbers are in the range of their types, so they are short, and its
-- listing is of it alone: of the images over its names that are listable and have only short numbers no other has this
-- listing (`TellsImagesApart`).
pub record IsGoodImage (text : List ℕ) (app : App) (image : Image) : Type 0 where
  pub of_text : IsApplication text app
  pub good : IsGoodOf app image
  pub numbers : HasTypedNumbers image

-- `build`: the listing of a good image
pub record IsListed (text bytes : List ℕ) : Type 0 where
  pub app : App
  pub image : Image
  pub is : IsGoodImage text app image
  pub written : bytes ≡ listing image

-- `run`: the listing of a good image, and that image's trace under the events of the script, with its total of core
-- steps. What the image does under these events is a run of Baker's machine.
pub record IsRun (text more bytes : List ℕ) : Type 0 where
  pub app : App
  pub image : Image
  pub is : IsGoodImage text app image
  pub script : List Line
  pub read : IsScriptText (names_of app) more script
  pub written : bytes ≡ listing image ++ codes "trace\n" ++ text_of image script
  pub runs : RunsWell app image (events script)
  -- the whole is no longer than a trace's text may be, so `audit` reads it
  pub short : length bytes < TRACE_BYTES

-- the status and the line for a verdict: how many items are right, or the number of the first that is not
abbrev pub Says : Trace → Verdict → Status → List ℕ → Type 0
Says trace judged.Yes ended bytes =
    (ended ≡ status.Done) × (bytes ≡ codes "yes " ++ decimal (length trace.items) ++ codes "\n")
Says trace (judged.No number) ended bytes =
    (ended ≡ status.No) × (bytes ≡ codes "no " ++ decimal number ++ codes "\n")

-- `audit`: whether the trace is a run of Baker's machine on the application, within the stack bound
pub record IsAudited (text more : List ℕ) (ended : Status) (bytes : List ℕ) : Type 0 where
  pub app : App
  pub of_text : IsApplication text app
  pub trace : Trace
  pub read : IsTraceText (names_of app) more trace
  pub verdict : Verdict
  pub is : IsVerdict app trace verdict
  pub says : Says trace verdict ended bytes

-- `live`: the listing of a good image, and then what the image may write beside the devices of the script: a trace, and
-- the account of every pend of every device. What the image does under the script's own events with what its looks
-- found is a run of Baker's machine.
pub record IsLive (text more bytes : List ℕ) : Type 0 where
  pub app : App
  pub image : Image
  pub is : IsGoodImage text app image
  pub script : List Line
  pub read : IsScriptText (names_of app) more script
  pub shown : List ℕ
  pub live : IsLiveText image script shown
  pub written : bytes ≡ listing image ++ codes "trace\n" ++ shown
  pub runs : RunsWell app image (interleaving (turns script) live.found)
  -- the account too is within what a trace's text may be, so `audit` reads it
  pub short : length bytes < TRACE_BYTES

-- the summary of so many runs of one good image of an application, each under the script that is generated for it
abbrev pub TellsSoak : App → ℕ → ℕ → List ℕ → Type 0
TellsSoak app number count bytes = (s : Summary) × IsSoak app number count s × (bytes ≡ summary_text s)

-- `soak` writes the summary of so many runs of a good image of an accepted application
abbrev pub IsSoaked : List ℕ → ℕ → ℕ → List ℕ → Type 0
IsSoaked text number count bytes = (app : App) × IsApplication text app × TellsSoak app number count bytes

-- the line for an application that is not of the form that a command is for
abbrev pub no_line : List ℕ
no_line = codes "no\n"

-- the status and the bytes of `deepest` for an application, by its form
pub data TellsDeepest (app : App) : Status → List ℕ → Type 0 where
  reaches_bound : (bytes : List ℕ) → has_deepest_script app ≡ true → ReachesTheBound app bytes
      → TellsDeepest app status.Done bytes
  no_script : has_deepest_script app ≡ false → TellsDeepest app status.No no_line

-- `deepest`: a script on which the stack reaches its bound
abbrev pub IsDeepened : List ℕ → Status → List ℕ → Type 0
IsDeepened text ended bytes = (app : App) × IsApplication text app × TellsDeepest app ended bytes

-- The status and the bytes of `times` for an application and limits, by its form. Every image of the application
-- responds within the times that are printed, also where interrupts are requested during `init`.
pub data TellsTimes (app : App) (limits : List Limit) : Status → List ℕ → Type 0 where
  responds : (rows : List ResponseTime) → has_response_times app ≡ true → AreResponseTimes app limits rows
      → ((image : Image) → IsImageOf app image
      → RespondsInTime app limits image × RespondsInTimeOnceInitEnds app limits image)
      → TellsTimes app limits status.Done (times_report rows)
  no_times : has_response_times app ≡ false → TellsTimes app limits status.No no_line

-- `times`: the response time of each priority under these limits
pub record IsTimed (text more : List ℕ) (ended : Status) (bytes : List ℕ) : Type 0 where
  pub app : App
  pub of_text : IsApplication text app
  pub limits : List Limit
  pub read : IsLimitsText app more limits
  pub tells : TellsTimes app limits ended bytes
