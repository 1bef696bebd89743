-- The text of a trace. Each item is a line: the number of core steps before it, and what it shows, in words that
-- one space separates. The last line is the total of core steps. The form is this project's own.
use Rattle.std.specs.Prelude.{ℕ, List, [], ◌∷◌, ◌++◌, map, flat_map, codes, decimal, option_to_list}
use Rattle.rt_ids.specs.Names.{Names}
use Rattle.rt_lines.specs.Table.{operand_word, spaced_text}
use Rattle.rt_trace.specs.Trace.{Trace}
use Rattle.rt_trace.specs.Words.{first, operands}
use Rattle.rt_trace.specs.declared.item.Item.{Item}
use Rattle.rt_trace.specs.declared.item.What.{What}

-- the words behind the first
abbrev pub operand_words : Names → What → List (List ℕ)
operand_words names w = map (operand_word names) (operands w)

-- the line of an item, without its line feed
abbrev pub item_line : Names → Item → List ℕ
item_line names item = decimal item.step ++ spaced_text (first item.what ∷ operand_words names item.what)

-- the text of an item: its line
abbrev pub text : Names → Item → List ℕ
text names item = item_line names item ++ 10 ∷ []

-- the last line, the total of core steps
abbrev pub total_text : ℕ → List ℕ
total_text total = codes "total " ++ decimal total ++ 10 ∷ []

-- the text of a whole trace
abbrev pub trace_text : Names → Trace → List ℕ
trace_text names trace = flat_map (text names) trace.items ++ flat_map total_text (option_to_list trace.total)
