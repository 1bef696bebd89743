-- Which texts are traces, and which is the first wrong line of a text. A listing may stand in front, up to and with
-- the first line `trace`; then lines of items; then maybe the total; and behind a total lines of accounts, which
-- are passed over. A reader says so line by line: it stands in front of the first line, in a listing, among the items,
-- or behind a total, and each line leads it on, may tell an item, or is wrong. That whole lists of lines in this order
-- are read so is a law (`TraceLinesAreRead`).
use Rattle.std.specs.Prelude.{◌≡◌, ℕ, nat_eq, bytes_eq, codes, Bool, List, [], ◌++◌, Option, Some, None, Result, Ok}
use Rattle.std.specs.Prelude.{Err, option_to_list, if◌then◌else◌}
use Rattle.std.specs.List.{starts_with}
use Rattle.rt_ids.specs.Names.{Names}
use Rattle.rt_ids.specs.declared.limits.TheConstants.{TRACE_BYTES}
use Rattle.rt_lines.specs.Answers.{and_make}
use Rattle.rt_lines.specs.Parts.{lines}
use Rattle.rt_lines.specs.Reading.{Reader, IsRead, IsFirstWrong, IsTooLong}
use Rattle.rt_trace.specs.Trace.{Trace}
use Rattle.rt_trace.specs.Row.{row_of_line}
use Rattle.rt_trace.specs.declared.item.Item.{Item}
use Rattle.rt_lines.specs.declared.operand.Wrong.{Wrong}
use Rattle.rt_lines.specs.declared.operand.Wrong.TheVariants as wrong
use Rattle.rt_trace.specs.declared.reader.Phase.{Phase}
use Rattle.rt_trace.specs.declared.reader.Phase.TheVariants as phase
use Rattle.rt_trace.specs.declared.row.TraceRow.{TraceRow}
use Rattle.rt_trace.specs.declared.row.TraceRow.TheVariants as row
use Rattle.rt_trace.specs.declared.refusal.TraceRefused.{TraceRefused}
use Rattle.rt_trace.specs.declared.refusal.TraceRefused.TheVariants as refused

-- the first line of a listing
abbrev pub begins_listing : List ℕ → Bool
begins_listing line = starts_with nat_eq line (codes "image ")

-- the line behind a listing
abbrev pub ends_listing : List ℕ → Bool
ends_listing line = bytes_eq line (codes "trace")

-- a line behind the total
abbrev pub is_account : List ℕ → Bool
is_account line = starts_with nat_eq line (codes "account ")

-- where a reader stands behind a row, and the item of the row
abbrev pub behind_row : TraceRow → Phase × Option Item
behind_row (row.Shown item) = (phase.Items, Some item)
behind_row (row.Total total) = (phase.Closed total, None)

-- the same of a line that has to be a row, or what is wrong with it
abbrev pub row_told : Names → List ℕ → Result (Phase × Option Item) Wrong
row_told names line = and_make (row_of_line names line) behind_row

-- where a reader that stood here stands behind a line, and the item that the line tells; or what is wrong with the line
abbrev pub line_told : Names → Phase → List ℕ → Result (Phase × Option Item) Wrong
line_told names phase.Start line = if begins_listing line then Ok (phase.Listing, None) else row_told names line
line_told names phase.Listing line = if ends_listing line then Ok (phase.Items, None) else Ok (phase.Listing, None)
line_told names phase.Items line = row_told names line
line_told names (phase.Closed total) line =
    if is_account line then Ok (phase.Closed total, None) else Err wrong.Form

-- where a reader stands, and the items that the lines so far tell
pub record Standing : Type 0 where
  pub phase : Phase
  pub items : List Item

-- where a reader stands a line further on, or what is wrong with the line
abbrev pub reader_step : Names → Standing → List ℕ → Result Standing Wrong
reader_step names s line =
    and_make (line_told names s.phase line)
    (λ told. record { phase = told.0; items = s.items ++ option_to_list told.1 })

-- what is missing where a text ends here: in a listing the line behind it
abbrev pub missing : Phase → Option Wrong
missing phase.Listing = Some wrong.Form
missing elsewhere = None

-- the total that was told
abbrev pub total_of : Phase → Option ℕ
total_of (phase.Closed total) = Some total
total_of elsewhere = None

-- the reader of traces, over the names of an application
abbrev pub trace_reader : Names → Reader Standing Wrong
trace_reader names = record {
  most = TRACE_BYTES;
  lines = lines;
  start = record { phase = phase.Start; items = [] };
  step = reader_step names;
  missing = λ s. missing s.phase;
}

-- the trace that the lines up to here tell
abbrev pub trace_of : Standing → Trace
trace_of s = record { items = s.items; total = total_of s.phase }

-- the text of this trace, maybe behind a listing
pub record IsTraceText (names : Names) (text : List ℕ) (trace : Trace) : Type 0 where
  pub reached : Standing
  pub read : IsRead (trace_reader names) text reached
  pub tells : trace ≡ trace_of reached

-- the refusal of a text; want of memory has no cause in it
abbrev pub IsTraceRefused : Names → List ℕ → TraceRefused → Type 0
IsTraceRefused names text refused.TooLong = IsTooLong (trace_reader names) text
IsTraceRefused names text (refused.BadLine n) = IsFirstWrong (trace_reader names) text n wrong.Form
IsTraceRefused names text (refused.UnknownName n) = IsFirstWrong (trace_reader names) text n wrong.Name
IsTraceRefused names text refused.NoMemory = Unit {0}
