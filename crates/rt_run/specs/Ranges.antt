-- Which images have numbers in the range of the types that a program holds them in, as far as their traces show them.
use Rattle.std.specs.Prelude.{ℕ, List, Option, Some}
use Rattle.std.specs.List.{AllByRecursion}
use Rattle.rt_lines.specs.Numbers.{Is32Bits}
use Rattle.rt_lines.specs.Operand.{HasLevel}
use Rattle.rt_code.specs.Image.{Image}
use Rattle.rt_code.specs.declared.instr.Instr.{Instr}
use Rattle.rt_code.specs.declared.instr.Instr.TheVariants as instr
use Rattle.rt_code.specs.declared.instr.Note.{Note}
use Rattle.rt_code.specs.declared.instr.Note.TheVariants as note

-- numbers of 32 bits
abbrev pub AreWords : List ℕ → Type 0
AreWords = AllByRecursion Is32Bits

-- the value that an instruction has of itself is of 32 bits
abbrev pub IsWordInstr : Instr → Type 0
IsWordInstr (instr.Set d v) = Is32Bits v
IsWordInstr (instr.Raise d v) = Is32Bits v
IsWordInstr i = Unit {0}

-- the level that a note names is in the range of a priority
abbrev pub HasLevelNote : Option Note → Type 0
HasLevelNote (Some (note.Enter s)) = HasLevel s
HasLevelNote (Some (note.Leave s)) = HasLevel s
HasLevelNote n = Unit {0}

-- first values and operands of 32 bits, and levels of 8 bits
pub record HasRanges (img : Image) : Type 0 where
  pub cells : AllByRecursion (λ cell. Is32Bits cell.first) img.cells
  pub instrs : AllByRecursion (λ line. IsWordInstr line.0) img.code
  pub notes : AllByRecursion (λ line. HasLevelNote line.1) img.code
