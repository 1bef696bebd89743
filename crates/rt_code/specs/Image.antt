-- An image: code, and the tables that a core needs to run it. The tables stand for the vector table (ARMv7-M
-- Architecture Reference Manual, section B1.5.3), the priority registers of the interrupt controller (section B3.4.9)
-- and the initial contents of memory. The code keeps vectors.
use Rattle.std.specs.Prelude.{ℕ, Bool, List, Option}
use Rattle.rt_ids.specs.Exception as exception
use Rattle.rt_ids.specs.Names.{Names}
use Rattle.rt_ids.specs.declared.cell.CellRow.{CellRow}
use Rattle.rt_code.specs.declared.image.IrqRow.{IrqRow}
use Rattle.rt_code.specs.declared.image.BodyRow.{BodyRow}
use Rattle.rt_code.specs.declared.instr.Instr.{Instr}
use Rattle.rt_code.specs.declared.instr.Note.{Note}

-- an image: code, the table of interrupts that stands for the vector table, sizes, and the initial contents of memory
pub record Image : Type 0 where
  -- implemented priority bits
  pub bits : ℕ
  -- whether the core has the floating-point extension
  pub fpu : Bool
  -- the size of the stack region, in bytes
  pub stack_bytes : ℕ
  -- the words of the thread's frame
  pub thread_words : ℕ
  -- the cells of memory by number, each with its name and its value after reset
  pub cells : List CellRow
  -- the declared interrupts, in order of declaration
  pub irqs : List IrqRow
  -- the bodies of software tasks, by number
  pub bodies : List BodyRow
  -- the instructions by address, each with its note
  pub code : List (Instr × Option Note)
  pub names : Names

-- how many words exception entry pushes
abbrev pub entry_words : Image → ℕ
entry_words img = exception.entry_words img.fpu
