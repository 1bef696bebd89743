-- What is printed where a script beside devices is refused: the line's number, and the cause by its number and in
-- words. The first five are those of scripts.
use Rattle.std.specs.Prelude.{ℕ, List, codes}
use Rattle.rt_lines.specs.Refusal as refusals
use Rattle.rt_given.specs.declared.refusal.Cause.{Cause}
use Rattle.rt_given.specs.declared.refusal.Cause.TheVariants as cause

-- the number and the words of a cause
abbrev pub cause_words : Cause → List ℕ
cause_words cause.TooLong = codes "1 too long"
cause_words cause.BadLine = codes "2 bad line"
cause_words cause.UnknownInterrupt = codes "3 unknown interrupt"
cause_words cause.TooManyEvents = codes "4 too many events"
cause_words cause.TooManyDevices = codes "5 too many devices"
cause_words cause.UnknownInput = codes "6 unknown input"
cause_words cause.NoInput = codes "7 no input"
cause_words cause.ManyInputs = codes "8 many inputs"

-- the line that is printed
abbrev pub refusal_text : ℕ → Cause → List ℕ
refusal_text line c = refusals.refusal_text (codes "script") line (cause_words c)
