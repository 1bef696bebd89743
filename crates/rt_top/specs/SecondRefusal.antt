-- The line that refuses a script, a trace or limits: which of these it is, the number of its first wrong line, and what
-- is wrong there. A text that is too long is refused at its first line. Want of memory refuses nothing.
use Rattle.std.specs.Prelude.{◌≡◌, ℕ, List, ◌++◌, codes, decimal}
use Rattle.rt_app.specs.Names.{names_of}
use Rattle.rt_app.specs.Tree.{App}
use Rattle.rt_build.specs.Accepted.{IsApplication}
use Rattle.rt_rta.specs.Text as limits
use Rattle.rt_rta.specs.declared.refusal.LimitsRefused.{LimitsRefused}
use Rattle.rt_rta.specs.declared.refusal.LimitsRefused.TheVariants as in_limits
use Rattle.rt_script.specs.Text as script
use Rattle.rt_script.specs.declared.refusal.ScriptRefused.{ScriptRefused}
use Rattle.rt_script.specs.declared.refusal.ScriptRefused.TheVariants as in_script
use Rattle.rt_trace.specs.Reading as trace
use Rattle.rt_trace.specs.declared.refusal.TraceRefused.{TraceRefused}
use Rattle.rt_trace.specs.declared.refusal.TraceRefused.TheVariants as in_trace

-- the line for the refusal of a script
abbrev pub SaysScript : ScriptRefused → List ℕ → Type 0
SaysScript in_script.TooLong line = line ≡ codes "script:" ++ decimal 1 ++ codes " 1 too long\n"
SaysScript (in_script.BadLine n) line = line ≡ codes "script:" ++ decimal n ++ codes " 2 bad line\n"
SaysScript (in_script.UnknownInterrupt n) line = line ≡ codes "script:" ++ decimal n ++ codes " 3 unknown interrupt\n"
SaysScript (in_script.TooManyEvents n) line = line ≡ codes "script:" ++ decimal n ++ codes " 4 too many events\n"
SaysScript (in_script.TooManyDevices n) line = line ≡ codes "script:" ++ decimal n ++ codes " 5 too many devices\n"
SaysScript in_script.NoMemory line = ⊥

-- the line for the refusal of a trace
abbrev pub SaysTrace : TraceRefused → List ℕ → Type 0
SaysTrace in_trace.TooLong line = line ≡ codes "trace:" ++ decimal 1 ++ codes " 1 too long\n"
SaysTrace (in_trace.BadLine n) line = line ≡ codes "trace:" ++ decimal n ++ codes " 2 bad line\n"
SaysTrace (in_trace.UnknownName n) line = line ≡ codes "trace:" ++ decimal n ++ codes " 3 unknown name\n"
SaysTrace in_trace.NoMemory line = ⊥

-- the line for the refusal of limits
abbrev pub SaysLimits : LimitsRefused → List ℕ → Type 0
SaysLimits in_limits.TooLong line = line ≡ codes "limits:" ++ decimal 1 ++ codes " 1 too long\n"
SaysLimits (in_limits.BadLine n) line = line ≡ codes "limits:" ++ decimal n ++ codes " 2 bad line\n"
SaysLimits (in_limits.UnknownInterrupt n) line = line ≡ codes "limits:" ++ decimal n ++ codes " 3 unknown interrupt\n"
SaysLimits in_limits.NoMemory line = ⊥

-- the line refuses a text over the application of another text: the refusal is the text's, and the line says it
pub record RefusesOver {R : Type 0} (IsRefused : App → List ℕ → R → Type 0) (Says : R → List ℕ → Type 0)
    (text more line : List ℕ) : Type 0 where
  pub app : App
  pub of_text : IsApplication text app
  pub refusal : R
  pub refused : IsRefused app more refusal
  pub says : Says refusal line

-- the line refuses a text that is no script over the names of an application
abbrev pub RefusesScript : List ℕ → List ℕ → List ℕ → Type 0
RefusesScript text more line = RefusesOver (λ app. script.IsScriptRefused (names_of app)) SaysScript text more line

-- the line refuses a text that is no trace over the names of an application
abbrev pub RefusesTrace : List ℕ → List ℕ → List ℕ → Type 0
RefusesTrace text more line = RefusesOver (λ app. trace.IsTraceRefused (names_of app)) SaysTrace text more line

-- the line refuses a text that tells no limits of an application
abbrev pub RefusesLimits : List ℕ → List ℕ → List ℕ → Type 0
RefusesLimits text more line = RefusesOver limits.AreLimitsRefused SaysLimits text more line
