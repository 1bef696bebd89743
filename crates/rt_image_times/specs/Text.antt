-- What a limits text says of an image, and which is its first wrong line. Its lines are those of `str::lines` of Rust,
-- as a script's are. Each line is judged behind those before it, since an interrupt has one limit at most.
use Rattle.std.specs.Prelude.{ℕ, List, [], ◌++◌, option_to_list, None}
use Rattle.std.specs.Str.Lines.{lines}
use Rattle.rt_ids.specs.declared.limits.TheConstants.{SCRIPT_BYTES}
use Rattle.rt_lines.specs.Answers.{and_make}
use Rattle.rt_lines.specs.Reading.{Reader, IsRead, IsFirstWrong, IsTooLong}
use Rattle.rt_code.specs.Image.{Image}
use Rattle.rt_rta.specs.Text.{refusal_of}
use Rattle.rt_rta.specs.declared.limits.Limit.{Limit}
use Rattle.rt_rta.specs.declared.line.Wrong.{Wrong}
use Rattle.rt_rta.specs.declared.refusal.LimitsRefused.{LimitsRefused}
use Rattle.rt_rta.specs.declared.refusal.LimitsRefused.TheVariants as refused
use Rattle.rt_image_times.specs.Wording.{line_limit}

-- the reader of limits on the interrupts of an image; a text is as long as a script may be at most
abbrev pub image_limits_reader : Image → Reader (List Limit) Wrong
image_limits_reader img = record {
  most = SCRIPT_BYTES;
  lines = lines;
  start = [];
  step = λ limits line. and_make (line_limit img limits line) (λ told. limits ++ option_to_list told);
  missing = λ limits. None;
}

-- a text that is not too long, whose lines tell these limits
abbrev pub IsImageLimitsText : Image → List ℕ → List Limit → Type 0
IsImageLimitsText img text limits = IsRead (image_limits_reader img) text limits

-- the refusal of a text; want of memory has no cause in it
pub data AreImageLimitsRefused (img : Image) (text : List ℕ) : LimitsRefused → Type 0 where
  too_long : IsTooLong (image_limits_reader img) text → AreImageLimitsRefused img text refused.TooLong
  first_wrong : (n : ℕ) (w : Wrong) → IsFirstWrong (image_limits_reader img) text n w
      → AreImageLimitsRefused img text (refusal_of n w)
  no_memory : AreImageLimitsRefused img text refused.NoMemory
