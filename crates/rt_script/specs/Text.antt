-- What a script text says, and which is its first wrong line. Its lines end with a line feed, or with a carriage
-- return and a line feed, which the last line may lack, as `str::lines` of Rust says. Each line is judged by itself
-- (Wording), and the events of all lines are no more than there may be.
use Rattle.std.specs.Prelude.{ℕ, ◌+◌, nat_le, List, [], ◌∷◌, ◌++◌, Option, Some, None, Result, Ok, Err}
use Rattle.std.specs.Prelude.{if◌then◌else◌}
use Rattle.std.specs.Str.Lines.{lines}
use Rattle.rt_ids.specs.Names.{Names}
use Rattle.rt_ids.specs.declared.limits.TheConstants.{SCRIPT_BYTES, SCRIPT_EVENTS}
use Rattle.rt_lines.specs.Answers.{and_then}
use Rattle.rt_lines.specs.Reading.{Reader, IsRead, IsFirstWrong, IsTooLong}
use Rattle.rt_script.specs.Script.{count, count_of}
use Rattle.rt_script.specs.Wording.{line_of}
use Rattle.rt_script.specs.declared.line.Line.{Line}
use Rattle.rt_script.specs.declared.words.Wrong.{Wrong}
use Rattle.rt_script.specs.declared.words.Wrong.TheVariants as wrong
use Rattle.rt_script.specs.declared.refusal.ScriptRefused.{ScriptRefused}
use Rattle.rt_script.specs.declared.refusal.ScriptRefused.TheVariants as refused

-- the script with what its next line asks for, where it asks for something and the events are not too many then
abbrev pub with_asked : List Line → Option Line → Result (List Line) Wrong
with_asked script None = Ok script
with_asked script (Some line) =
    if nat_le (count script + count_of line) SCRIPT_EVENTS then Ok (script ++ line ∷ []) else Err wrong.Events

-- the reader of scripts, over the names of an application
abbrev pub script_reader : Names → Reader (List Line) Wrong
script_reader names = record {
  most = SCRIPT_BYTES;
  lines = lines;
  start = [];
  step = λ script line. and_then (line_of names line) (with_asked script);
  missing = λ script. None;
}

-- a text that is not too long, whose lines ask for this script
abbrev pub IsScriptText : Names → List ℕ → List Line → Type 0
IsScriptText names text script = IsRead (script_reader names) text script

-- the refusal of a text whose first wrong line has this number, where this is wrong with it
abbrev pub refusal_of : ℕ → Wrong → ScriptRefused
refusal_of n wrong.Form = refused.BadLine n
refusal_of n wrong.Interrupt = refused.UnknownInterrupt n
refusal_of n wrong.Device = refused.TooManyDevices n
refusal_of n wrong.Events = refused.TooManyEvents n

-- the refusal of a text; want of memory has no cause in it
pub data IsScriptRefused (names : Names) (text : List ℕ) : ScriptRefused → Type 0 where
  too_long : IsTooLong (script_reader names) text → IsScriptRefused names text refused.TooLong
  first_wrong : (n : ℕ) (w : Wrong) → IsFirstWrong (script_reader names) text n w
      → IsScriptRefused names text (refusal_of n w)
  no_memory : IsScriptRefused names text refused.NoMemory
