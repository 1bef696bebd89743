-- What a line of a board's text says. It is blank, or begins with `#` as a comment, both as in a script, or is one of
--     input T R    flash A S    ram A S    port A    tick N    bits N    word R A    call I
-- `input` as rt_board reads it; with addresses A, a size S, a number N, the name R of an input that a line before
-- names, and an interrupt I that a task binds. Numbers are those of application texts, of 32 bits. One or more spaces
-- separate its words, and none stand before the first or behind the last. The form is this project's own.
use Rattle.std.specs.Prelude.{ℕ, ◌||◌, if◌then◌else◌, bytes_eq, codes, List, [], ◌∷◌, find}
use Rattle.std.specs.Prelude.{Option, Some, None, Result, Ok, Err}
use Rattle.std.specs.List.{list_any}
use Rattle.std.specs.Option.{ok_or}
use Rattle.rt_ids.specs.Names.{Names, irq_of}
use Rattle.rt_ids.specs.Word.{is_identifier}
use Rattle.rt_lex.specs.Number.{number_value, in_32_bits}
use Rattle.rt_lex.specs.Split.{is_number}
use Rattle.rt_lines.specs.Answers.{and_then, and_make}
use Rattle.rt_lines.specs.Parts.{spaced_words}
use Rattle.rt_script.specs.Wording.{is_blank, is_comment, is_loose}
use Rattle.rt_app.specs.Tree.{App}
use Rattle.rt_board.specs.Board.{Board}
use Rattle.rt_board.specs.Wording as boards
use Rattle.rt_board.specs.declared.refusal.Cause as board
use Rattle.rt_board.specs.declared.refusal.Cause.TheVariants as board_cause
use Rattle.rt_given.specs.Wording.{input_named}
use Rattle.rt_target.specs.Chip.{says_same, is_in_range, overlap, has_too_few_bits, calls_for_none}
use Rattle.rt_target.specs.Setup.{Setup, with_board, with_fact}
use Rattle.rt_target.specs.declared.fact.Fact.{Fact}
use Rattle.rt_target.specs.declared.fact.Fact.TheVariants.{Flash, Ram, Port, Tick, Bits, Word, Call}
use Rattle.rt_target.specs.declared.line.Form.{Form}
use Rattle.rt_target.specs.declared.line.Form.TheVariants as form
use Rattle.rt_target.specs.declared.refusal.Cause.{Cause}
use Rattle.rt_target.specs.declared.refusal.Cause.TheVariants as cause

-- what is wrong with a line that should name an input, as it is told here
abbrev pub told_as : board.Cause → Cause
told_as board_cause.BadLine = cause.BadLine
told_as board_cause.UnknownTask = cause.UnknownTask
told_as board_cause.SoftwareTask = cause.SoftwareTask
told_as board_cause.UnknownLocal = cause.UnknownLocal
told_as board_cause.LocalOfAnother = cause.LocalOfAnother
told_as board_cause.NamedTwice = cause.NamedTwice

-- the first word of a line that says something of the chip
abbrev pub name_of : Form → List ℕ
name_of form.Flash = codes "flash"
name_of form.Ram = codes "ram"
name_of form.Port = codes "port"
name_of form.Tick = codes "tick"
name_of form.Bits = codes "bits"
name_of form.Word = codes "word"
name_of form.Call = codes "call"

abbrev pub forms : List Form
forms = form.Flash ∷ form.Ram ∷ form.Port ∷ form.Tick ∷ form.Bits ∷ form.Word ∷ form.Call ∷ []

-- the form that the first word of a line names, where it says something of the chip
abbrev pub form_of : List ℕ → Option Form
form_of first = find (λ form. bytes_eq first (name_of form)) forms

-- the number that a word spells, decimal or hexadecimal, where it is of 32 bits
abbrev pub number_spelled : List ℕ → Option ℕ
number_spelled word = if is_number word then in_32_bits (number_value word) else None

abbrev pub number_told : List ℕ → Result ℕ Cause
number_told word = ok_or (number_spelled word) cause.BadLine

-- the number that the only word spells
abbrev pub one_number : List (List ℕ) → Result ℕ Cause
one_number (a ∷ []) = number_told a
one_number words = Err cause.BadLine

-- and those of the only two
abbrev pub two_numbers : List (List ℕ) → Result (ℕ × ℕ) Cause
two_numbers (a ∷ b ∷ []) = and_then (number_told a) (λ x. and_make (number_told b) (λ y. (x, y)))
two_numbers words = Err cause.BadLine

-- the interrupt of a name
abbrev pub interrupt_at : Names → List ℕ → Result ℕ Cause
interrupt_at names word =
    if is_identifier word then ok_or (irq_of names word) cause.UnknownInterrupt else Err cause.BadLine

-- the interrupt that the only word names
abbrev pub one_irq : Names → List (List ℕ) → Result ℕ Cause
one_irq names (i ∷ []) = interrupt_at names i
one_irq names words = Err cause.BadLine

-- the local resource of the input of a name
abbrev pub input_local : App → Board → List ℕ → Result ℕ Cause
input_local app board name =
    if is_identifier name then ok_or (input_named app.locals board name) cause.UnknownInput else Err cause.BadLine

-- the input that the first of the only two words names is read from the address that the second spells
abbrev pub input_word : App → Board → List (List ℕ) → Result Fact Cause
input_word app board (name ∷ a ∷ []) =
    and_then (number_told a) (λ address. and_make (input_local app board name) (λ local. Word local address))
input_word app board words = Err cause.BadLine

-- what the words behind the first say
abbrev pub fact_of : Names → App → Board → Form → List (List ℕ) → Result Fact Cause
fact_of names app board form.Flash words = and_make (two_numbers words) (λ both. Flash both.0 both.1)
fact_of names app board form.Ram words = and_make (two_numbers words) (λ both. Ram both.0 both.1)
fact_of names app board form.Port words = and_make (one_number words) Port
fact_of names app board form.Tick words = and_make (one_number words) Tick
fact_of names app board form.Bits words = and_make (one_number words) Bits
fact_of names app board form.Word words = input_word app board words
fact_of names app board form.Call words = and_make (one_irq names words) Call

-- a fact, where it and others have no byte in common, the core has enough bits, and a task binds what is called for
abbrev pub if_apart : App → List Fact → Fact → Result Fact Cause
if_apart app facts fact =
    if list_any (overlap fact) facts then Err cause.Overlap
    else if has_too_few_bits app.bits fact then Err cause.TooFewBits
    else if calls_for_none app fact then Err cause.UnboundInterrupt else Ok fact

-- a fact, where it can come behind others
abbrev pub if_can_follow : App → List Fact → Fact → Result Fact Cause
if_can_follow app facts fact =
    if list_any (says_same fact) facts then Err cause.NamedTwice
    else if is_in_range fact then if_apart app facts fact else Err cause.OutOfRange

-- what a line tells as one that names an input
abbrev pub board_or_wrong : Setup → Result Board board.Cause → Result Setup Cause
board_or_wrong setup (Ok board) = Ok (with_board setup board)
board_or_wrong setup (Err c) = Err (told_as c)

-- the names are those of the application
module _ (names : Names) (app : App) (setup : Setup) where
  abbrev pub input_line : List ℕ → Result Setup Cause
  input_line line = board_or_wrong setup (boards.with_line names app setup.board line)

  -- what the words behind the first say of the chip, where it can come behind what is told
  abbrev pub fact_behind : Form → List (List ℕ) → Result Fact Cause
  fact_behind form words = and_then (fact_of names app setup.board form words) (if_can_follow app setup.facts)

  abbrev pub chip_line : Form → List (List ℕ) → Result Setup Cause
  chip_line form words = and_make (fact_behind form words) (with_fact setup)

  -- what a line says whose first word is this
  abbrev pub line_of_form : List ℕ → List (List ℕ) → Option Form → Result Setup Cause
  line_of_form line words None = input_line line
  line_of_form line words (Some form) = chip_line form words

  -- what a line with these words says
  abbrev pub words_say : List ℕ → List (List ℕ) → Result Setup Cause
  words_say line [] = input_line line
  words_say line (first ∷ words) = line_of_form line words (form_of first)

  -- what is told behind a line: the same where it is skipped
  abbrev pub with_line : List ℕ → Result Setup Cause
  with_line line =
      if is_blank line || is_comment line then Ok setup
      else if is_loose line then Err cause.BadLine else words_say line (spaced_words line)
