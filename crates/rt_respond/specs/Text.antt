-- What a limits text says, which is its first wrong line, and what is printed then. Its lines are those of `str::lines`
-- of Rust, as a script's are. Each line is judged behind those before it, since nothing is said twice.
use Rattle.std.specs.Prelude.{ℕ, List, codes, Option, Some, None}
use Rattle.std.specs.Str.Lines.{lines}
use Rattle.rt_ids.specs.declared.limits.TheConstants.{SCRIPT_BYTES}
use Rattle.rt_lines.specs.Answers.{and_make}
use Rattle.rt_lines.specs.Reading.{Reader, IsRead}
use Rattle.rt_lines.specs.Refusal as refusals
use Rattle.rt_lines.specs.declared.refusal.TextRefused.{TextRefused}
use Rattle.rt_app.specs.Tree.{App}
use Rattle.rt_respond.specs.Limits.{Limits, no_limits, with_line}
use Rattle.rt_respond.specs.Wording.{limit_line}
use Rattle.rt_respond.specs.declared.line.Line.{Line}
use Rattle.rt_respond.specs.declared.refusal.Cause.{Cause}
use Rattle.rt_respond.specs.declared.refusal.Cause.TheVariants as cause

-- the limits with what a line says, where it says something
abbrev pub with_told : Limits → Option Line → Limits
with_told limits None = limits
with_told limits (Some said) = with_line limits said

-- the reader of limits for an application; a text is as long as a script may be at most
abbrev pub limits_reader : App → Reader Limits Cause
limits_reader app = record {
  most = SCRIPT_BYTES;
  lines = lines;
  start = no_limits;
  step = λ limits line. and_make (limit_line app limits line) (with_told limits);
  missing = λ limits. None;
}

-- a text that is not too long, whose lines say these limits
abbrev pub IsLimitsText : App → List ℕ → Limits → Type 0
IsLimitsText app text limits = IsRead (limits_reader app) text limits

-- the refusal of a text
abbrev pub IsRefused : App → List ℕ → TextRefused Cause → Type 0
IsRefused app text refusal = refusals.IsRefused (limits_reader app) cause.TooLong text refusal

-- a cause by its number and in words
abbrev pub cause_words : Cause → List ℕ
cause_words cause.TooLong = codes "1 too long"
cause_words cause.BadLine = codes "2 bad line"
cause_words cause.UnknownName = codes "3 unknown name"

-- what is printed where a text is refused at a line
abbrev pub refusal_text : ℕ → Cause → List ℕ
refusal_text line c = refusals.refusal_text (codes "limits") line (cause_words c)
