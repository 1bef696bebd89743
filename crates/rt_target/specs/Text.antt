-- What is printed where a board's text is refused: the line's number, and the cause by its number and in words.
use Rattle.std.specs.Prelude.{ℕ, suc, Bool, false, not, bytes_eq, List, [], ◌∷◌, codes, length, take_while}
use Rattle.rt_lines.specs.Parts.{spaced_words}
use Rattle.rt_lines.specs.Refusal as refusals
use Rattle.rt_target.specs.declared.refusal.Cause.{Cause}
use Rattle.rt_target.specs.declared.refusal.Cause.TheVariants as cause

-- the number and the words of a cause
abbrev pub cause_words : Cause → List ℕ
cause_words cause.TooLong = codes "1 too long"
cause_words cause.BadLine = codes "2 bad line"
cause_words cause.UnknownTask = codes "3 unknown task"
cause_words cause.SoftwareTask = codes "4 software task"
cause_words cause.UnknownLocal = codes "5 unknown local"
cause_words cause.LocalOfAnother = codes "6 local of another"
cause_words cause.NamedTwice = codes "7 named twice"
cause_words cause.UnknownInterrupt = codes "8 unknown interrupt"
cause_words cause.UnknownInput = codes "9 unknown input"
cause_words cause.OutOfRange = codes "10 out of range"
cause_words cause.Overlap = codes "11 overlap"
cause_words cause.TooFewBits = codes "12 too few bits"
cause_words cause.UnboundInterrupt = codes "13 unbound interrupt"
cause_words cause.NoFlash = codes "14 no flash"
cause_words cause.NoRam = codes "15 no ram"
cause_words cause.NoPort = codes "16 no port"
cause_words cause.NoBits = codes "17 no bits"
cause_words cause.TooFewLines = codes "18 too few lines"
cause_words cause.SmallRam = codes "19 ram too small"
cause_words cause.SmallFlash = codes "20 flash too small"
cause_words cause.FarBranch = codes "21 branch too far"
cause_words cause.LongFile = codes "22 file too long"

-- the line that is printed
abbrev pub refusal_text : ℕ → Cause → List ℕ
refusal_text line c = refusals.refusal_text (codes "board") line (cause_words c)

-- the first word of a line is this
abbrev pub first_is : List ℕ → List (List ℕ) → Bool
first_is word [] = false
first_is word (first ∷ words) = bytes_eq first word

abbrev pub begins_with : List ℕ → List ℕ → Bool
begins_with word line = first_is word (spaced_words line)

-- the number of the first line that begins with a word; where there is none, of the line behind the last
abbrev pub line_number : List ℕ → List (List ℕ) → ℕ
line_number word ls = suc (length (take_while (λ line. not (begins_with word line)) ls))
