-- The line that refuses a board, limits, or a script or a trace beside a board: which of these it is, the number of its
-- first wrong line, and what is wrong there. Want of memory refuses nothing.
use Rattle.std.specs.Prelude.{◌≡◌, ℕ, List}
use Rattle.rt_lines.specs.declared.refusal.TextRefused.{TextRefused}
use Rattle.rt_lines.specs.declared.refusal.TextRefused.TheVariants as refused
use Rattle.rt_app.specs.Names.{names_of}
use Rattle.rt_app.specs.Tree.{App}
use Rattle.rt_build.specs.Accepted.{IsApplication}
use Rattle.rt_board.specs.Board.{Board}
use Rattle.rt_code.specs.Image.{Image}
use Rattle.rt_given.specs.Reading as given
use Rattle.rt_given.specs.Text as given_text
use Rattle.rt_given.specs.declared.refusal.Cause as in_script
use Rattle.rt_image_times.specs.Text.{AreImageLimitsRefused}
use Rattle.rt_inputs_audit.specs.Reading as trace
use Rattle.rt_inputs_audit.specs.Text as trace_text
use Rattle.rt_inputs_audit.specs.declared.refusal.Cause as in_trace
use Rattle.rt_load.specs.Reading.{IsListingText}
use Rattle.rt_rta.specs.declared.refusal.LimitsRefused.{LimitsRefused}
use Rattle.rt_respond.specs.Text as limits_text
use Rattle.rt_respond.specs.declared.refusal.Cause as in_limits
use Rattle.rt_target.specs.Reading as boards
use Rattle.rt_target.specs.Text as board_text
use Rattle.rt_target.specs.declared.refusal.Cause as in_board
use Rattle.rt_top.specs.SecondRefusal.{RefusesOver, SaysLimits as SaysImageLimits}

-- the line for the refusal of a board
abbrev pub SaysBoard : TextRefused in_board.Cause → List ℕ → Type 0
SaysBoard (refused.Wrong n c) line = line ≡ board_text.refusal_text n c
SaysBoard refused.NoMemory line = ⊥

-- the line for the refusal of limits
abbrev pub SaysLimits : TextRefused in_limits.Cause → List ℕ → Type 0
SaysLimits (refused.Wrong n c) line = line ≡ limits_text.refusal_text n c
SaysLimits refused.NoMemory line = ⊥

-- the line for the refusal of a script
abbrev pub SaysScript : TextRefused in_script.Cause → List ℕ → Type 0
SaysScript (refused.Wrong n c) line = line ≡ given_text.refusal_text n c
SaysScript refused.NoMemory line = ⊥

-- the line for the refusal of a trace
abbrev pub SaysTrace : TextRefused in_trace.Cause → List ℕ → Type 0
SaysTrace (refused.Wrong n c) line = line ≡ trace_text.refusal_text n c
SaysTrace refused.NoMemory line = ⊥

-- the line refuses a text that is no board of an application
abbrev pub RefusesBoard : List ℕ → List ℕ → List ℕ → Type 0
RefusesBoard text more line = RefusesOver boards.IsRefused SaysBoard text more line

-- the line refuses a text that is no board for which a program can be made
abbrev pub RefusesTarget : List ℕ → List ℕ → List ℕ → Type 0
RefusesTarget text more line = RefusesOver boards.IsTargetRefused SaysBoard text more line

-- the line refuses a text that is no limits for an application
abbrev pub RefusesLimits : List ℕ → List ℕ → List ℕ → Type 0
RefusesLimits text more line = RefusesOver limits_text.IsRefused SaysLimits text more line

-- the line refuses a text that is no limits for the image of another text
pub record RefusesImageLimits (text more line : List ℕ) : Type 0 where
  pub image : Image
  pub of_text : IsListingText text image
  pub refusal : LimitsRefused
  pub refused : AreImageLimitsRefused image more refusal
  pub says : SaysImageLimits refusal line

-- The line refuses a text over the application of another and beside the board of a third: the refusal is the text's,
-- and the line says it.
pub record RefusesBeside {R : Type 0} (IsRefused : App → Board → List ℕ → R → Type 0) (Says : R → List ℕ → Type 0)
    (text beside more line : List ℕ) : Type 0 where
  pub app : App
  pub of_text : IsApplication text app
  pub board : Board
  pub of_board : boards.IsBoardOf app beside board
  pub refusal : R
  pub refused : IsRefused app board more refusal
  pub says : Says refusal line

-- the line refuses a text that is no script over the names of an application and the inputs of a board
abbrev pub RefusesScript : List ℕ → List ℕ → List ℕ → List ℕ → Type 0
RefusesScript text beside more line =
    RefusesBeside (λ app board. given.IsRefused (names_of app) app board) SaysScript text beside more line

-- and one that is no trace over them
abbrev pub RefusesTrace : List ℕ → List ℕ → List ℕ → List ℕ → Type 0
RefusesTrace text beside more line =
    RefusesBeside (λ app board. trace.IsRefused (names_of app) app board) SaysTrace text beside more line
