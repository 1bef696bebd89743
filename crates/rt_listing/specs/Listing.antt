-- The one text of an image: a line of its sizes, then a line for each cell, declared interrupt, body of a software task
-- and instruction. Words stand one space apart, numbers are decimal, and each line ends with a line feed. The form is
-- this project's own.
use Rattle.std.specs.Prelude.{ℕ, suc, Bool, if◌then◌else◌, List, [], ◌∷◌, ◌++◌, flat_map, length, codes, decimal}
use Rattle.std.specs.Prelude.{Option, Some, None}
use Rattle.rt_ids.specs.Names.{Names}
use Rattle.rt_ids.specs.declared.cell.CellRow.{CellRow}
use Rattle.rt_code.specs.Image.{Image}
use Rattle.rt_ids.specs.Naming.{task_name}
use Rattle.rt_code.specs.declared.image.IrqRow.{IrqRow}
use Rattle.rt_code.specs.declared.image.Handler.{Handler}
use Rattle.rt_code.specs.declared.image.BodyRow.{BodyRow}
use Rattle.rt_code.specs.declared.instr.Instr.{Instr}
use Rattle.rt_code.specs.declared.instr.Note.{Note}
use Rattle.rt_lines.specs.Table.{spaced_text}
use Rattle.rt_listing.specs.Words.{instr_words, noted_words}

-- the line of a first word and the words behind it
abbrev pub line : List ℕ → List (List ℕ) → List ℕ
line first words = first ++ spaced_text words ++ 10 ∷ []

-- the form of a listing: 2 where the core has the floating-point extension, else 1
abbrev pub form_word : Bool → List ℕ
form_word fpu = if fpu then codes "2" else codes "1"

-- the words of the first line behind its first: the form, priority bits, stack bytes, words of the thread's frame, and
-- this many instructions and cells
abbrev pub first_words : Image → ℕ → ℕ → List (List ℕ)
first_words img code cells =
    form_word img.fpu ∷ decimal img.bits ∷ decimal img.stack_bytes ∷ decimal img.thread_words ∷ decimal code
    ∷ decimal cells ∷ []

-- the first line of a listing
abbrev pub first_line : Image → ℕ → ℕ → List ℕ
first_line img code cells = line (codes "image") (first_words img code cells)

-- the first line of an image's listing, with its own sizes
abbrev pub sizes_line : Image → List ℕ
sizes_line img = first_line img (length img.code) (length img.cells)

-- a line for each thing, which says its number
abbrev pub lines_with_numbers : {A : Type 0} → (ℕ → A → List ℕ) → ℕ → List A → List ℕ
lines_with_numbers line n [] = []
lines_with_numbers line n (x ∷ xs) = line n x ++ lines_with_numbers line (suc n) xs

-- the words of a cell behind the first: its number, its first value and its name
abbrev pub cell_words : ℕ → CellRow → List (List ℕ)
cell_words n cell = decimal n ∷ decimal cell.first ∷ cell.name ∷ []

-- the line of a cell
abbrev pub cell_line : ℕ → CellRow → List ℕ
cell_line n cell = line (codes "cell") (cell_words n cell)

-- the priority value, the entry's address and the frame's words, or a dash where the interrupt is not enabled
abbrev pub handler_words : Option Handler → List (List ℕ)
handler_words None = codes "-" ∷ []
handler_words (Some h) = decimal h.value ∷ decimal h.entry ∷ decimal h.frame ∷ []

-- the words of an interrupt behind the first: its name, its number and its handler
abbrev pub irq_words : IrqRow → List (List ℕ)
irq_words row = row.name ∷ decimal row.number ∷ handler_words row.handler

-- the line of an interrupt
abbrev pub irq_line : IrqRow → List ℕ
irq_line row = line (codes "irq") (irq_words row)

-- the words of a body that handlers call behind the first: its task, its entry, its frame's words and its arguments
abbrev pub body_words : Names → BodyRow → List (List ℕ)
body_words names row = task_name names row.task ∷ decimal row.entry ∷ decimal row.frame ∷ decimal row.args ∷ []

-- the line of a body
abbrev pub body_line : Names → BodyRow → List ℕ
body_line names row = line (codes "body") (body_words names row)

-- the words of an instruction's line behind the first: its address, the instruction and its note
abbrev pub code_words : Names → ℕ → Instr × Option Note → List (List ℕ)
code_words names n line = decimal n ∷ (instr_words names line.0 ++ noted_words names line.1)

-- the line of an instruction
abbrev pub code_line : Names → ℕ → Instr × Option Note → List ℕ
code_line names n code = line (codes "code") (code_words names n code)

-- the listing of an image
abbrev pub listing : Image → List ℕ
listing img =
    sizes_line img ++ lines_with_numbers cell_line 0 img.cells ++ flat_map irq_line img.irqs
    ++ flat_map (body_line img.names) img.bodies ++ lines_with_numbers (code_line img.names) 0 img.code
