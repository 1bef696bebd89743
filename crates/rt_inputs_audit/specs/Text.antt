-- What is printed where the text of a trace with inputs is refused: the line's number, and the cause by its number and
-- in words.
use Rattle.std.specs.Prelude.{ℕ, List, codes}
use Rattle.rt_lines.specs.Refusal as refusals
use Rattle.rt_inputs_audit.specs.declared.refusal.Cause.{Cause}
use Rattle.rt_inputs_audit.specs.declared.refusal.Cause.TheVariants as cause

-- the number and the words of a cause
abbrev pub cause_words : Cause → List ℕ
cause_words cause.TooLong = codes "1 too long"
cause_words cause.BadLine = codes "2 bad line"
cause_words cause.UnknownName = codes "3 unknown name"
cause_words cause.UnknownInput = codes "4 unknown input"

-- the line that is printed
abbrev pub refusal_text : ℕ → Cause → List ℕ
refusal_text line c = refusals.refusal_text (codes "trace") line (cause_words c)
