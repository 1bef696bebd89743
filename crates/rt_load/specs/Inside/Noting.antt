-- The instruction of words, its note, and both of a line of code.
use Rattle.std.specs.Prelude.{ℕ, ◌^◌, ◌==◌, if◌then◌else◌, List, [], ◌∷◌, Option, Some, None, Result, Ok, Err}
use Rattle.rt_ids.specs.Names.{Names}
use Rattle.rt_code.specs.declared.instr.Instr.{Instr}
use Rattle.rt_code.specs.declared.instr.Note.{Note}
use Rattle.rt_lines.specs.Answers.{and_then, and_make}
use Rattle.rt_lines.specs.Operand.{number_at}
use Rattle.rt_lines.specs.Table.{Row, both, said_at}
use Rattle.rt_lines.specs.declared.operand.Wrong.{Wrong}
use Rattle.rt_lines.specs.declared.operand.Wrong.TheVariants as wrong
use Rattle.rt_listing.specs.Words.{instr_rows, note_rows}
use Rattle.rt_load.specs.Inside.Operand.{in_front, behind}

-- what words say by a table
abbrev pub words_at : {T : Type 0} → List (Row T) → Names → List (List ℕ) → Result T Wrong
words_at rows names [] = Err wrong.Form
words_at rows names (first ∷ words) = said_at rows names first words

-- the note of the words behind a semicolon, where there is one
abbrev pub note_after : Names → Option (List (List ℕ)) → Result (Option Note) Wrong
note_after names None = Ok None
note_after names (Some words) = and_make (words_at note_rows names words) Some

-- the line of code of this address and of these words behind its first
abbrev pub line_at : Names → ℕ → List (List ℕ) → Result (Instr × Option Note) Wrong
line_at names address [] = Err wrong.Form
line_at names address (number ∷ words) =
    and_then (number_at (2 ^ 32) number) (λ n. if n == address
    then both (words_at instr_rows names (in_front words)) (note_after names (behind words)) else Err wrong.Form)
