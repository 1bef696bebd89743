-- What an auditor keeps after the lines that came, and what it says of a text.
use Rattle.std.specs.Prelude.{◌≡◌, ◌≤◌, ℕ, List, ◌++◌, length, Option, Some, None}
use Rattle.rt_ids.specs.Names.{Names}
use Rattle.rt_ids.specs.declared.limits.TheConstants.{TRACE_BYTES}
use Rattle.rt_lines.specs.Parts.{lines}
use Rattle.rt_lines.specs.Reading.{Lead}
use Rattle.rt_lines.specs.declared.refusal.TextRefused.{TextRefused}
use Rattle.rt_app.specs.Names.{names_of}
use Rattle.rt_app.specs.Tree.{App}
use Rattle.rt_app.specs.View.{app_of}
use Rattle.rt_baker.specs.declared.verdict.Verdict.{Verdict}
use Rattle.rt_baker_moves.specs.Machine.{IsMachine}
use Rattle.rt_baker_moves.specs.declared.machine.Machine.{Machine}
use Rattle.rt_board.specs.Board.{Board, AreInputs}
use Rattle.rt_inputs.specs.Shown.{ShownLine}
use Rattle.rt_inputs_audit.specs.Audit.{IsVerdictBeside}
use Rattle.rt_inputs_audit.specs.Judging.{HasJudged}
use Rattle.rt_inputs_audit.specs.Reading.{Standing, Told, inputs_reader, IsInputsText, IsRefused}
use Rattle.rt_inputs_audit.specs.declared.judge.InputsJudge.{InputsJudge}
use Rattle.rt_inputs_audit.specs.declared.reader.InputsReader.{InputsReader}
use Rattle.rt_inputs_audit.specs.declared.refusal.Cause.{Cause}

-- where the reader stands, behind lines that show these
abbrev pub standing : InputsReader → List ShownLine → Standing
standing reader shown = record { phase = reader.inner.phase; lines = shown }

-- no line is wrong, and what the lines show was judged
pub record IsJudgedSoFar (app : App) (b : Board) (names : Names) (ls : List (List ℕ)) (reader : InputsReader)
    (judge : InputsJudge) : Type 0 where
  pub shown : List ShownLine
  pub few : length shown ≤ length ls
  pub read : Lead (inputs_reader names app b) (inputs_reader names app b).start ls (standing reader shown)
  pub judged : HasJudged app b shown judge

-- one of the lines is wrong: each text that begins with these lines is refused so
abbrev pub Refuses : App → Board → Names → List (List ℕ) → TextRefused Cause → Type 0
Refuses app b names ls refusal =
    (text : List ℕ) (behind : List (List ℕ)) → length text ≤ TRACE_BYTES → lines text ≡ ls ++ behind
    → IsRefused names app b text refusal

-- no line is wrong, or the first that is is refused so
abbrev pub AuditStands :
    App → Board → Names → List (List ℕ) → InputsReader → InputsJudge → Option (TextRefused Cause) → Type 0
AuditStands app b names ls reader judge None = IsJudgedSoFar app b names ls reader judge
AuditStands app b names ls reader judge (Some refusal) = Refuses app b names ls refusal

-- These lines came of a trace with inputs of the chosen application and board.
pub record HasAudited (chosen : Option App) (on : Option Board) (names : Names) (machine : Machine) (b : Board)
    (reader : InputsReader) (judge : InputsJudge) (refused : Option (TextRefused Cause)) (ls : List (List ℕ))
    : Type 0 where
  pub follows : IsMachine machine
  pub chose : chosen ≡ Some (app_of machine.code.now.app.now)
  pub stood : on ≡ Some b
  pub inputs : AreInputs (app_of machine.code.now.app.now) b.inputs
  pub named : names ≡ names_of (app_of machine.code.now.app.now)
  pub stands : AuditStands (app_of machine.code.now.app.now) b names ls reader judge refused

-- The text is that of a trace with inputs of so many lines, and this is the verdict on it.
pub record IsJudgedText (app : App) (b : Board) (text : List ℕ) (verdict : Verdict) (count : ℕ) : Type 0 where
  pub told : Told
  pub read : IsInputsText (names_of app) app b text told
  pub is : IsVerdictBeside app b told.lines told.total verdict
  pub counted : count ≡ length told.lines
