-- What a limits text says, and which is its first wrong line. Its lines are those of `str::lines` of Rust, as a
-- script's are. Each line is judged behind those before it, since an interrupt has one limit at most.
use Rattle.std.specs.Prelude.{ℕ, List, [], ◌++◌, option_to_list, None}
use Rattle.std.specs.Str.Lines.{lines}
use Rattle.rt_ids.specs.declared.limits.TheConstants.{SCRIPT_BYTES}
use Rattle.rt_lines.specs.Answers.{and_make}
use Rattle.rt_lines.specs.Reading.{Reader, IsRead, IsFirstWrong, IsTooLong}
use Rattle.rt_app.specs.Tree.{App}
use Rattle.rt_rta.specs.Wording.{limit_line}
use Rattle.rt_rta.specs.declared.limits.Limit.{Limit}
use Rattle.rt_rta.specs.declared.line.Wrong.{Wrong}
use Rattle.rt_rta.specs.declared.line.Wrong.TheVariants as wrong
use Rattle.rt_rta.specs.declared.refusal.LimitsRefused.{LimitsRefused}
use Rattle.rt_rta.specs.declared.refusal.LimitsRefused.TheVariants as refused

-- the reader of limits on the interrupts of an application; a text is as long as a script may be at most
abbrev pub limits_reader : App → Reader (List Limit) Wrong
limits_reader app = record {
  most = SCRIPT_BYTES;
  lines = lines;
  start = [];
  step = λ limits line. and_make (limit_line app limits line) (λ told. limits ++ option_to_list told);
  missing = λ limits. None;
}

-- a text that is not too long, whose lines tell these limits
abbrev pub IsLimitsText : App → List ℕ → List Limit → Type 0
IsLimitsText app text limits = IsRead (limits_reader app) text limits

-- the refusal of a text whose first wrong line has this number, where this is wrong with it
abbrev pub refusal_of : ℕ → Wrong → LimitsRefused
refusal_of n wrong.Form = refused.BadLine n
refusal_of n wrong.Interrupt = refused.UnknownInterrupt n

-- the refusal of a text; want of memory has no cause in it
pub data AreLimitsRefused (app : App) (text : List ℕ) : LimitsRefused → Type 0 where
  too_long : IsTooLong (limits_reader app) text → AreLimitsRefused app text refused.TooLong
  first_wrong : (n : ℕ) (w : Wrong) → IsFirstWrong (limits_reader app) text n w
      → AreLimitsRefused app text (refusal_of n w)
  no_memory : AreLimitsRefused app text refused.NoMemory
