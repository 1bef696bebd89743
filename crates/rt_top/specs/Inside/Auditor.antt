-- What an auditor keeps after the lines that came.
use Rattle.std.specs.Prelude.{◌≡◌, ◌≤◌, ℕ, List, ◌++◌, length, Option, Some, None}
use Rattle.rt_ids.specs.Names.{Names}
use Rattle.rt_ids.specs.declared.limits.TheConstants.{TRACE_BYTES}
use Rattle.rt_lines.specs.Parts.{lines}
use Rattle.rt_app.specs.Names.{names_of}
use Rattle.rt_app.specs.Tree.{App}
use Rattle.rt_app.specs.View.{app_of}
use Rattle.rt_baker.specs.Audit.{IsVerdict}
use Rattle.rt_baker.specs.Judge.{HasJudged}
use Rattle.rt_baker.specs.declared.judge.Judge.{Judge}
use Rattle.rt_baker.specs.declared.verdict.Verdict.{Verdict}
use Rattle.rt_baker_moves.specs.Machine.{IsMachine}
use Rattle.rt_baker_moves.specs.declared.machine.Machine.{Machine}
use Rattle.rt_trace.specs.Reader.{HasRead}
use Rattle.rt_trace.specs.Reading.{IsTraceRefused, IsTraceText}
use Rattle.rt_trace.specs.Trace.{Trace}
use Rattle.rt_trace.specs.declared.item.Item.{Item}
use Rattle.rt_trace.specs.declared.reader.TraceReader.{TraceReader}
use Rattle.rt_trace.specs.declared.refusal.TraceRefused.{TraceRefused}

-- no line is wrong, and the items that the lines tell were judged
pub record IsJudgedSoFar (app : App) (names : Names) (ls : List (List ℕ)) (reader : TraceReader)
    (judge : Judge) : Type 0 where
  pub items : List Item
  pub few : length items ≤ length ls
  pub read : HasRead names ls items reader
  pub judged : HasJudged app items judge

-- one of the lines is wrong: each text that begins with these lines is refused so
abbrev pub Refuses : Names → List (List ℕ) → TraceRefused → Type 0
Refuses names ls refusal =
    (text : List ℕ) (behind : List (List ℕ)) → length text ≤ TRACE_BYTES → lines text ≡ ls ++ behind
    → IsTraceRefused names text refusal

-- no line is wrong, or the first that is is refused so
abbrev pub AuditStands : App → Names → List (List ℕ) → TraceReader → Judge → Option TraceRefused → Type 0
AuditStands app names ls reader judge None = IsJudgedSoFar app names ls reader judge
AuditStands app names ls reader judge (Some refusal) = Refuses names ls refusal

-- These lines came of a trace of the chosen application.
pub record HasAudited (chosen : Option App) (names : Names) (machine : Machine) (reader : TraceReader) (judge : Judge)
    (refused : Option TraceRefused) (ls : List (List ℕ)) : Type 0 where
  pub follows : IsMachine machine
  pub chose : chosen ≡ Some (app_of machine.code.now.app.now)
  pub named : names ≡ names_of (app_of machine.code.now.app.now)
  pub stands : AuditStands (app_of machine.code.now.app.now) names ls reader judge refused

-- The text is that of a trace of so many items, and this is the verdict on it.
pub record IsJudgedText (app : App) (text : List ℕ) (verdict : Verdict) (count : ℕ) : Type 0 where
  pub trace : Trace
  pub read : IsTraceText (names_of app) text trace
  pub is : IsVerdict app trace verdict
  pub counted : count ≡ length trace.items
