-- A reader that takes one line after another.
use Rattle.std.specs.Prelude.{ℕ, List}
use Rattle.rt_ids.specs.Names.{Names}
use Rattle.rt_lines.specs.Reading.{Lead}
use Rattle.rt_trace.specs.Reading.{Standing, trace_reader}
use Rattle.rt_trace.specs.declared.item.Item.{Item}
use Rattle.rt_lines.specs.declared.operand.Wrong.{Wrong}
use Rattle.rt_lines.specs.declared.operand.Wrong.TheVariants as wrong
use Rattle.rt_trace.specs.declared.reader.TraceReader.{TraceReader}
use Rattle.rt_trace.specs.declared.refusal.TraceRefused.{TraceRefused}
use Rattle.rt_trace.specs.declared.refusal.TraceRefused.TheVariants as refused

-- where the reader stands, which told these items
abbrev pub standing : TraceReader → List Item → Standing
standing reader items = record { phase = reader.phase; items = items }

-- the reader took these lines, which tell these items
abbrev pub HasRead : Names → List (List ℕ) → List Item → TraceReader → Type 0
HasRead names ls items reader = Lead (trace_reader names) (trace_reader names).start ls (standing reader items)

-- the refusal of the line of this number, with which this is wrong
abbrev pub refusal_of : Wrong → ℕ → TraceRefused
refusal_of wrong.Form n = refused.BadLine n
refusal_of wrong.Name n = refused.UnknownName n
