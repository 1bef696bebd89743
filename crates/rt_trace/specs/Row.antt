-- What a line of a trace says: it is the line of an item, or the total. A line that is neither is of no form; but
-- where all that is wrong with it is that a name stands in no table, the name is unknown.
use Rattle.std.specs.Prelude.{ℕ, ◌^◌, if◌then◌else◌, bytes_eq, codes, List, [], ◌∷◌, Result, Err}
use Rattle.rt_ids.specs.Names.{Names}
use Rattle.rt_lines.specs.Answers.{and_then, and_make}
use Rattle.rt_lines.specs.Operand.{number_at, read_at}
use Rattle.rt_lines.specs.Parts.{words}
use Rattle.rt_lines.specs.Table.{Number32, one_at, said_at}
use Rattle.rt_lines.specs.declared.operand.Wrong.{Wrong}
use Rattle.rt_lines.specs.declared.operand.Wrong.TheVariants as wrong
use Rattle.rt_trace.specs.Words.{rows}
use Rattle.rt_trace.specs.declared.item.What.{What}
use Rattle.rt_trace.specs.declared.row.TraceRow.{TraceRow}
use Rattle.rt_trace.specs.declared.row.TraceRow.TheVariants as row

-- the item of this step number
abbrev pub item_row : ℕ → What → TraceRow
item_row step w = row.Shown (record { step = step; what = w })

-- an item: a step number, a first word, and the words behind it
abbrev pub item_at : Names → List (List ℕ) → Result TraceRow Wrong
item_at names (step ∷ first ∷ words) =
    and_then (number_at (2 ^ 31) step) (λ n. and_make (said_at rows names first words) (item_row n))
item_at names words = Err wrong.Form

-- the row that words say: a total, or an item
abbrev pub row_at : Names → List (List ℕ) → Result TraceRow Wrong
row_at names [] = Err wrong.Form
row_at names (word ∷ words) =
    if bytes_eq word (codes "total") then and_make (one_at (read_at Number32) names words) row.Total
    else item_at names (word ∷ words)

-- what a line says
abbrev pub row_of_line : Names → List ℕ → Result TraceRow Wrong
row_of_line names line = row_at names (words line)
