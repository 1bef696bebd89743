-- What a line of a script says. It is blank, or begins with `#` as a comment, or is one of
--     step N    tick N    pend I    pend I N    device D pend I    device D pend I N
-- with a declared interrupt I and numbers of one to nine digits; N left out is 1. One or more spaces separate its
-- words, and none stand before the first or behind the last. The form is this project's own.
use Rattle.std.specs.Prelude.{ℕ, ◌-◌, Bool, false, ◌||◌, ◌==◌, nat_lt, if◌then◌else◌, bytes_eq, codes, List, [], ◌∷◌}
use Rattle.std.specs.Prelude.{length, slice_index, Option, Some, None, Result, Ok, Err}
use Rattle.std.specs.List.{list_all}
use Rattle.std.specs.Option.{ok_or}
use Rattle.rt_ids.specs.Names.{Names, irq_of}
use Rattle.rt_ids.specs.Word.{is_identifier}
use Rattle.rt_ids.specs.declared.limits.TheConstants.{DEVICES}
use Rattle.rt_lines.specs.Parts.{spaced_words}
use Rattle.rt_lines.specs.Numbers.{short_number}
use Rattle.rt_lines.specs.Answers.{and_then, and_make}
use Rattle.rt_script.specs.declared.line.Line.{Line}
use Rattle.rt_script.specs.declared.line.Line.TheVariants.{Steps, Ticks, Pends, Device}
use Rattle.rt_script.specs.declared.words.Wrong.{Wrong}
use Rattle.rt_script.specs.declared.words.Wrong.TheVariants as wrong

-- spaces and tabs alone
abbrev pub is_blank : List ℕ → Bool
is_blank line = list_all (λ b. (b == 32) || (b == 9)) line

-- a line that begins with `#`
abbrev pub is_comment : List ℕ → Bool
is_comment [] = false
is_comment (b ∷ line) = b == 35

-- a space stands before the first word or behind the last
abbrev pub is_loose : List ℕ → Bool
is_loose line = (slice_index line 0 == 32) || (slice_index line (length line - 1) == 32)

-- the number of these words, which is one word of one to nine digits
abbrev pub only_count : List (List ℕ) → Result ℕ Wrong
only_count (n ∷ []) = ok_or (short_number n) wrong.Form
only_count words = Err wrong.Form

-- 1 where there is no word
abbrev pub count_or_one : List (List ℕ) → Result ℕ Wrong
count_or_one [] = Ok 1
count_or_one words = only_count words

-- the declared interrupt that a word names
abbrev pub irq_at : Names → List ℕ → Result ℕ Wrong
irq_at names word = if is_identifier word then ok_or (irq_of names word) wrong.Interrupt else Err wrong.Form

-- an interrupt, and how often it is requested
abbrev pub pends_of : Names → List (List ℕ) → Result (ℕ × ℕ) Wrong
pends_of names [] = Err wrong.Form
pends_of names (i ∷ more) = and_then (count_or_one more) (λ n. and_make (irq_at names i) (λ irq. (irq, n)))

-- what the line of a device asks for, where there is a device of this number
abbrev pub in_range : ℕ → ℕ × ℕ → Result Line Wrong
in_range device pends = if nat_lt device DEVICES then Ok (Device device pends.0 pends.1) else Err wrong.Device

-- what the words behind `device` ask for
abbrev pub device_of : Names → List (List ℕ) → Result Line Wrong
device_of names (d ∷ verb ∷ words) =
    if bytes_eq verb (codes "pend")
    then and_then (ok_or (short_number d) wrong.Form) (λ device. and_then (pends_of names words) (in_range device))
    else Err wrong.Form
device_of names words = Err wrong.Form

-- what the words of a line ask for
abbrev pub words_ask : Names → List (List ℕ) → Result Line Wrong
words_ask names [] = Err wrong.Form
words_ask names (verb ∷ words) =
    if bytes_eq verb (codes "step") then and_make (only_count words) Steps
    else if bytes_eq verb (codes "tick") then and_make (only_count words) Ticks
    else if bytes_eq verb (codes "pend") then and_make (pends_of names words) (λ p. Pends p.0 p.1)
    else if bytes_eq verb (codes "device") then device_of names words else Err wrong.Form

-- what a line asks for: nothing where it is skipped
abbrev pub line_of : Names → List ℕ → Result (Option Line) Wrong
line_of names line =
    if is_blank line || is_comment line then Ok None
    else if is_loose line then Err wrong.Form else and_make (words_ask names (spaced_words line)) Some
