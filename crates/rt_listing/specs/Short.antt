-- Rows of an image that have only short numbers, and such in the range of their types.
use Rattle.std.specs.Prelude.{[], ◌∷◌, Option}
use Rattle.rt_lines.specs.Numbers.{Is32Bits}
use Rattle.rt_ids.specs.declared.cell.CellRow.{CellRow}
use Rattle.rt_code.specs.declared.image.IrqRow.{IrqRow}
use Rattle.rt_code.specs.declared.image.BodyRow.{BodyRow}
use Rattle.rt_code.specs.declared.instr.Instr.{Instr}
use Rattle.rt_code.specs.declared.instr.Note.{Note}
use Rattle.rt_listing.specs.Numbers.{IsShort, AreShort, handler_numbers, instr_numbers, note_numbers, AreWords}
use Rattle.rt_listing.specs.Numbers.{NamesLevel}

-- the first value of a cell is of 64 bits
abbrev pub IsShortCell : CellRow → Type 0
IsShortCell cell = IsShort cell.first

-- the number of an interrupt and those of its handler are of 64 bits
abbrev pub IsShortIrq : IrqRow → Type 0
IsShortIrq row = AreShort (row.number ∷ handler_numbers row.handler)

-- the entry, the frame and the arguments of a body are of 64 bits
abbrev pub IsShortBody : BodyRow → Type 0
IsShortBody row = AreShort (row.entry ∷ row.frame ∷ row.args ∷ [])

-- the operands of an instruction are of 64 bits
abbrev pub HasShortInstr : Instr × Option Note → Type 0
HasShortInstr line = AreShort (instr_numbers line.0)

-- the numbers in a note are of 64 bits
abbrev pub HasShortNote : Instr × Option Note → Type 0
HasShortNote line = AreShort (note_numbers line.1)

-- the first value of a cell is of 32 bits
abbrev pub IsWordCell : CellRow → Type 0
IsWordCell cell = Is32Bits cell.first

-- the operands of an instruction are of 32 bits
abbrev pub HasWordInstr : Instr × Option Note → Type 0
HasWordInstr line = AreWords (instr_numbers line.0)

-- the level that a note names is of 8 bits
abbrev pub HasLevelNote : Instr × Option Note → Type 0
HasLevelNote line = NamesLevel line.1
