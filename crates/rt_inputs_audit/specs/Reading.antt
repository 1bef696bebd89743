-- Which texts are traces with inputs, and which is the first wrong line of a text. Its lines are those of a trace, as
-- `rt_trace` reads them, and lines
--     STEP input R V
-- with a step number as an item has one, the name R of an input of the board and a word V of 32 bits without a leading
-- zero; one space separates the words. A line is read so only where a row of a trace may stand and the line is none.
-- Where the line stands changes nothing of what the lines behind it are. The form is this project's own.
use Rattle.std.specs.Prelude.{◌≡◌, ℕ, ◌^◌, ◌&&◌, Bool, bytes_eq, codes, is_none, List, [], ◌∷◌, ◌++◌, Option, Some}
use Rattle.std.specs.Prelude.{None, Result, Ok, Err, option_map, option_to_list, if◌then◌else◌}
use Rattle.std.specs.Option.{ok_or}
use Rattle.rt_ids.specs.Names.{Names}
use Rattle.rt_ids.specs.Word.{is_identifier}
use Rattle.rt_ids.specs.declared.limits.TheConstants.{TRACE_BYTES}
use Rattle.rt_lines.specs.Answers.{and_then, and_make}
use Rattle.rt_lines.specs.Numbers.{number_below}
use Rattle.rt_lines.specs.Parts.{lines, words}
use Rattle.rt_lines.specs.Reading.{Reader, IsRead}
use Rattle.rt_lines.specs.Refusal as refusals
use Rattle.rt_lines.specs.declared.operand.Wrong.{Wrong}
use Rattle.rt_lines.specs.declared.operand.Wrong.TheVariants as wrong
use Rattle.rt_lines.specs.declared.refusal.TextRefused.{TextRefused}
use Rattle.rt_app.specs.Tree.{App}
use Rattle.rt_board.specs.Board.{Board}
use Rattle.rt_given.specs.Wording.{input_named}
use Rattle.rt_inputs.specs.Shown.{ShownLine, Shows, Input}
use Rattle.rt_trace.specs.Reading as traces
use Rattle.rt_trace.specs.declared.item.Item.{Item}
use Rattle.rt_trace.specs.declared.reader.Phase.{Phase}
use Rattle.rt_trace.specs.declared.reader.Phase.TheVariants as phase
use Rattle.rt_inputs_audit.specs.declared.line.TraceLine.{TraceLine}
use Rattle.rt_inputs_audit.specs.declared.line.TraceLine.TheVariants as told
use Rattle.rt_inputs_audit.specs.declared.refusal.Cause.{Cause}
use Rattle.rt_inputs_audit.specs.declared.refusal.Cause.TheVariants as cause

-- what a line that is told shows
abbrev pub shown_of : TraceLine → ShownLine
shown_of (told.Shows item) = Shows item
shown_of (told.Input step local word) = Input step local word

-- what is wrong with a line of a trace, as it is told here
abbrev pub cause_of : Wrong → Cause
cause_of wrong.Form = cause.BadLine
cause_of wrong.Name = cause.UnknownName

-- a number below this bound, without a leading zero
abbrev pub number_at : ℕ → List ℕ → Result ℕ Cause
number_at bound word = ok_or (number_below bound word) cause.BadLine

-- a row of a trace may stand here: nothing is missing in front of it, and no total was told
abbrev pub takes_rows : Phase → Bool
takes_rows at = is_none (traces.missing at) && is_none (traces.total_of at)

module _ (app : App) (board : Board) where
  -- the local resource of the input of a name
  abbrev pub input_at : List ℕ → Result ℕ Cause
  input_at name =
      if is_identifier name then ok_or (input_named app.locals board name) cause.UnknownInput else Err cause.BadLine

  -- what a step number, a name and a number tell
  abbrev pub input_of : List ℕ → List ℕ → List ℕ → Result TraceLine Cause
  input_of step name number =
      and_then (number_at (2 ^ 31) step)
      (λ n. and_then (number_at (2 ^ 32) number)
      (λ word. and_make (input_at name) (λ local. told.Input n local word)))

  -- what the words behind `input` tell, where this word stands in front
  abbrev pub input_words : List ℕ → List (List ℕ) → Result TraceLine Cause
  input_words step (name ∷ number ∷ []) = input_of step name number
  input_words step words = Err cause.BadLine

  -- what words tell that are to be those of an input; None where they are not to be
  abbrev pub maybe_input : List (List ℕ) → Option (Result TraceLine Cause)
  maybe_input (step ∷ first ∷ words) =
      if bytes_eq first (codes "input") then Some (input_words step words) else None
  maybe_input words = None

-- what such words tell where a reader stands here; where they are not to be those of an input, this is wrong
abbrev pub unless_input : Phase → Cause → Option (Result TraceLine Cause) → Result (Phase × Option TraceLine) Cause
unless_input at c None = Err c
unless_input at c (Some read) = and_make read (λ line. (at, Some line))

-- what a line tells that a reader of traces reads so
abbrev pub or_input : App → Board → Phase → List ℕ → Result (Phase × Option Item) Wrong
    → Result (Phase × Option TraceLine) Cause
or_input app board at line (Ok read) = Ok (read.0, option_map told.Shows read.1)
or_input app board at line (Err w) =
    if takes_rows at then unless_input at (cause_of w) (maybe_input app board (words line)) else Err (cause_of w)

-- where a reader stands, and what the lines so far show
pub record Standing : Type 0 where
  pub phase : Phase
  pub lines : List ShownLine

-- what the lines of a trace with inputs tell: what they show, and the total of core steps, where it is told
pub record Told : Type 0 where
  pub lines : List ShownLine
  pub total : Option ℕ

module _ (names : Names) (app : App) (board : Board) where
  -- where a reader that stood here stands behind a line, and what the line shows; or what is wrong with the line
  abbrev pub line_told : Phase → List ℕ → Result (Phase × Option TraceLine) Cause
  line_told at line = or_input app board at line (traces.line_told names at line)

  -- where a reader stands a line further on, or what is wrong with the line
  abbrev pub reader_step : Standing → List ℕ → Result Standing Cause
  reader_step s line =
      and_make (line_told s.phase line)
      (λ read. record { phase = read.0; lines = s.lines ++ option_to_list (option_map shown_of read.1) })

  -- the reader of traces with inputs, over the names of an application and the inputs of a board
  abbrev pub inputs_reader : Reader Standing Cause
  inputs_reader = record {
    most = TRACE_BYTES;
    lines = lines;
    start = record { phase = phase.Start; lines = [] };
    step = reader_step;
    missing = λ s. option_map cause_of (traces.missing s.phase);
  }

  -- the text of a trace with inputs that tells this
  pub record IsInputsText (text : List ℕ) (read : Told) : Type 0 where
    pub reached : Standing
    pub leads : IsRead inputs_reader text reached
    pub tells : read ≡ record { lines = reached.lines; total = traces.total_of reached.phase }

-- the refusal of a text
abbrev pub IsRefused : Names → App → Board → List ℕ → TextRefused Cause → Type 0
IsRefused names app board text refusal = refusals.IsRefused (inputs_reader names app board) cause.TooLong text refusal
