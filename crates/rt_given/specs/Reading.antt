-- Which script beside devices a text tells, and which is its first wrong line. Its lines are those of `str::lines` of
-- Rust, as a script's are; so are the bytes and the events that it has at most.
use Rattle.std.specs.Prelude.{ℕ, ◌+◌, nat_le, List, [], ◌∷◌, ◌++◌, Option, Some, None, Result, Ok, Err}
use Rattle.std.specs.Prelude.{if◌then◌else◌}
use Rattle.std.specs.Str.Lines.{lines}
use Rattle.rt_ids.specs.Names.{Names}
use Rattle.rt_ids.specs.declared.limits.TheConstants.{SCRIPT_BYTES, SCRIPT_EVENTS}
use Rattle.rt_lines.specs.Answers.{and_then}
use Rattle.rt_lines.specs.Reading.{Reader, IsRead}
use Rattle.rt_lines.specs.Refusal as refusals
use Rattle.rt_lines.specs.declared.refusal.TextRefused.{TextRefused}
use Rattle.rt_script.specs.Script.{count}
use Rattle.rt_app.specs.Tree.{App}
use Rattle.rt_board.specs.Board.{Board}
use Rattle.rt_given.specs.Given.{asked, count_of}
use Rattle.rt_given.specs.Wording.{line_of}
use Rattle.rt_given.specs.declared.line.GivenLine.{GivenLine}
use Rattle.rt_given.specs.declared.refusal.Cause.{Cause}
use Rattle.rt_given.specs.declared.refusal.Cause.TheVariants as cause

-- the script with its next line, where there is one and the events are not too many then
abbrev pub with_said : List GivenLine → Option GivenLine → Result (List GivenLine) Cause
with_said script None = Ok script
with_said script (Some line) =
    if nat_le (count (asked script) + count_of line) SCRIPT_EVENTS
    then Ok (script ++ line ∷ []) else Err cause.TooManyEvents

module _ (names : Names) (app : App) (board : Board) where
  -- the reader of scripts beside devices, over the names of an application and the inputs of a board
  abbrev pub given_reader : Reader (List GivenLine) Cause
  given_reader = record {
    most = SCRIPT_BYTES;
    lines = lines;
    start = [];
    step = λ script line. and_then (line_of names app board line) (with_said script);
    missing = λ script. None;
  }

  -- a text that is not too long, whose lines tell this script
  abbrev pub IsGivenText : List ℕ → List GivenLine → Type 0
  IsGivenText text script = IsRead given_reader text script

-- the refusal of a text
abbrev pub IsRefused : Names → App → Board → List ℕ → TextRefused Cause → Type 0
IsRefused names app board text refusal = refusals.IsRefused (given_reader names app board) cause.TooLong text refusal
