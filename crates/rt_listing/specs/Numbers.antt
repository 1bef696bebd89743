-- Which images have only numbers that their text tells apart. Those of an image that a program holds are of 32 bits or
-- fewer; a list of digits, as the standard library defines it, has at most 64.
use Rattle.std.specs.Prelude.{ℕ, ◌<◌, ◌^◌, List, [], ◌∷◌, flat_map, Option, Some, None}
use Rattle.std.specs.List.{AllByRecursion}
use Rattle.rt_ids.specs.declared.ids.Section.{Section}
use Rattle.rt_ids.specs.declared.ids.Section.TheVariants as section
use Rattle.rt_code.specs.Image.{Image}
use Rattle.rt_code.specs.declared.image.Handler.{Handler}
use Rattle.rt_code.specs.declared.instr.Instr.{Instr}
use Rattle.rt_code.specs.declared.instr.Note.{Note}
use Rattle.rt_code.specs.declared.instr.Note.TheVariants as note
use Rattle.rt_lines.specs.Operand.{OperandKind, Number, SectionName, OperandValue, HasLevel}
use Rattle.rt_lines.specs.Table.{Operand}
use Rattle.rt_lines.specs.Numbers.{Is32Bits}
use Rattle.rt_listing.specs.Words.{instr_operands, note_operands}

-- a number of 64 bits
abbrev pub IsShort : ℕ → Type 0
IsShort n = n < 2 ^ 64

-- numbers of 64 bits
abbrev pub AreShort : List ℕ → Type 0
AreShort = AllByRecursion IsShort

-- numbers of 32 bits
abbrev pub AreWords : List ℕ → Type 0
AreWords = AllByRecursion Is32Bits

-- the numbers of a handler, where the interrupt is enabled
abbrev pub handler_numbers : Option Handler → List ℕ
handler_numbers None = []
handler_numbers (Some h) = h.value ∷ h.entry ∷ h.frame ∷ []

-- the number in the name of a section, where there is one: the level of a ready queue
abbrev pub section_numbers : Section → List ℕ
section_numbers (section.Ready p) = p ∷ []
section_numbers s = []

-- the numbers in the word of an operand
abbrev pub numbers_in : (k : OperandKind) → OperandValue k → List ℕ
numbers_in (Number bound) n = n ∷ []
numbers_in SectionName s = section_numbers s
numbers_in k v = []

-- those in the words of operands
abbrev pub operand_numbers : List Operand → List ℕ
operand_numbers operands = flat_map (λ operand. numbers_in operand.0 operand.1) operands

-- the numbers of an instruction
abbrev pub instr_numbers : Instr → List ℕ
instr_numbers i = operand_numbers (instr_operands i)

-- the numbers in a note: the level in the name of its section, or its slots
abbrev pub note_numbers : Option Note → List ℕ
note_numbers None = []
note_numbers (Some n) = operand_numbers (note_operands n)

-- the level that a note names, where it names one, is of 8 bits
abbrev pub NamesLevel : Option Note → Type 0
NamesLevel (Some (note.Enter s)) = HasLevel s
NamesLevel (Some (note.Leave s)) = HasLevel s
NamesLevel n = Unit {0}

-- an image whose numbers are all of 64 bits
pub record HasShortNumbers (img : Image) : Type 0 where
  pub bits : IsShort img.bits
  pub stack_bytes : IsShort img.stack_bytes
  pub thread_words : IsShort img.thread_words
  pub cells : AllByRecursion (λ cell. IsShort cell.first) img.cells
  pub irqs : AllByRecursion (λ row. AreShort (row.number ∷ handler_numbers row.handler)) img.irqs
  pub bodies : AllByRecursion (λ row. AreShort (row.entry ∷ row.frame ∷ row.args ∷ [])) img.bodies
  pub instrs : AllByRecursion (λ line. AreShort (instr_numbers line.0)) img.code
  pub notes : AllByRecursion (λ line. AreShort (note_numbers line.1)) img.code

-- An image whose numbers are in the range of the types in which a program holds them: first values and operands of 32
-- bits, and levels of 8 bits.
pub record HasTypedNumbers (img : Image) : Type 0 where
  pub short : HasShortNumbers img
  pub cells : AllByRecursion (λ cell. Is32Bits cell.first) img.cells
  pub instrs : AllByRecursion (λ line. AreWords (instr_numbers line.0)) img.code
  pub levels : AllByRecursion (λ line. NamesLevel line.1) img.code
