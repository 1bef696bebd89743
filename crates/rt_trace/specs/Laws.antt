-- What is written is what is read: each item that has a line is what its line says, and a line that says an item is
-- that item's. The second is said where no two declared interrupts have one number, as in every accepted
-- application.
use Rattle.std.specs.Prelude.{◌≡◌, ◌≤◌, ◌<◌, ◌^◌, ℕ, List, length, map, Some, Ok}
use Rattle.std.specs.List.{AllByRecursion}
use Rattle.rt_ids.specs.Lists.{AreDifferent}
use Rattle.rt_ids.specs.Names.{Names, AreNames}
use Rattle.rt_ids.specs.declared.limits.TheConstants.{TRACE_BYTES}
use Rattle.rt_lines.specs.Parts.{lines}
use Rattle.rt_lines.specs.Reading.{IsReadOneWay}
use Rattle.rt_trace.specs.Lined.{HasLine}
use Rattle.rt_trace.specs.Reading.{trace_reader, IsTraceText}
use Rattle.rt_trace.specs.Row.{row_of_line}
use Rattle.rt_trace.specs.Text.{item_line, text, trace_text}
use Rattle.rt_trace.specs.Trace.{Trace}
use Rattle.rt_trace.specs.TraceLines.{AreTraceLines}
use Rattle.rt_trace.specs.declared.item.Item.{Item}
use Rattle.rt_trace.specs.declared.row.TraceRow.TheVariants as row

-- the line of an item is read as the item
abbrev pub LinesAreRead : Type 0
LinesAreRead = (names : Names) (item : Item) → AreNames names → HasLine names item
    → row_of_line names (item_line names item)
    ≡ Ok (row.Shown item)

-- a line that is read as an item is the item's
abbrev pub ReadLinesAreLines : Type 0
ReadLinesAreLines =
    (names : Names) (line : List ℕ) (item : Item) → AreDifferent (map (λ irq. irq.1) names.irqs)
    → row_of_line names line
    ≡ Ok (row.Shown item)
    → HasLine names item × (line ≡ item_line names item)

-- each text that is not too long is a trace's or has a first wrong line, not both, and in one way
abbrev pub AreReadOneWay : Type 0
AreReadOneWay = (names : Names) → IsReadOneWay (trace_reader names)

-- a text of the lines of a trace is read as that trace
abbrev pub TraceLinesAreRead : Type 0
TraceLinesAreRead =
    (names : Names) (text : List ℕ) (trace : Trace) → length text ≤ TRACE_BYTES → AreTraceLines names (lines text) trace
    → IsTraceText names text trace

-- No line of an item is longer than 91 bytes with its line feed, where its step has at most seven digits: the longest
-- is that of a start with a name of 32 bytes and four values of ten digits.
abbrev pub LinesAreShort : Type 0
LinesAreShort =
    (names : Names) (item : Item) → AreNames names → HasLine names item → item.step < 10 ^ 7
    → length (text names item) ≤ 91

-- The trace of a run is shorter than a trace text may be: a run of at most 1,000,000 events shows at most two items an
-- event, each at a step below 2,000,000.
abbrev pub RunsAreShort : Type 0
RunsAreShort =
    (names : Names) (items : List Item) (total : ℕ) → AreNames names → length items ≤ 2000000
    → AllByRecursion (λ item. HasLine names item × (item.step < 2000000)) items → total < 2 ^ 32
    → length (trace_text names (record { items = items; total = Some total })) < TRACE_BYTES
