-- Which images may be loaded: those that a listing from any compiler may hold. They are within the limits of
-- applications, their text can be told from that of every other image, and their tables of names say what their rows
-- do, so that the listing alone tells them. The limits and the listing are this project's own. The code reads lines.
use Rattle.std.specs.Prelude.{◌≡◌, ℕ, ◌<◌, ◌≤◌, ◌^◌, ◌==◌, Bool, not, List, length, map, filter, Option, Some, None}
use Rattle.std.specs.List.{AllByRecursion, list_any}
use Rattle.rt_lines.specs.Numbers.{Is32Bits}
use Rattle.rt_lines.specs.Operand.{HasLevel}
use Rattle.rt_ids.specs.Names.{Names, AreNames}
use Rattle.rt_ids.specs.Naming.{task_name}
use Rattle.rt_ids.specs.declared.limits.TheConstants.{IRQ_NUMBERS, ARGUMENTS, CODE_SIZE, LEAST_BITS, MOST_BITS}
use Rattle.rt_code.specs.Image.{Image}
use Rattle.rt_code.specs.Listable.{IsListable}
use Rattle.rt_code.specs.declared.image.IrqRow.{IrqRow}
use Rattle.rt_code.specs.declared.image.Handler.{Handler}
use Rattle.rt_code.specs.declared.image.BodyRow.{BodyRow}
use Rattle.rt_code.specs.declared.instr.Instr.{Instr}
use Rattle.rt_code.specs.declared.instr.Note.{Note}
use Rattle.rt_code.specs.declared.instr.Note.TheVariants as note
use Rattle.rt_listing.specs.Numbers.{instr_numbers}

-- a priority value of 8 bits, an address and a frame
abbrev pub IsHandlerWithin : Option Handler → Type 0
IsHandlerWithin None = Unit {0}
IsHandlerWithin (Some h) = (h.value < 2 ^ 8) × Is32Bits h.entry × Is32Bits h.frame

-- a number that an interrupt may have, and how it is served
pub record IsIrqWithin (row : IrqRow) : Type 0 where
  pub number : row.number < IRQ_NUMBERS
  pub handler : IsHandlerWithin row.handler

-- an address and a frame of 32 bits, and no more arguments than a task may have
pub record IsBodyWithin (row : BodyRow) : Type 0 where
  pub entry : Is32Bits row.entry
  pub frame : Is32Bits row.frame
  pub args : row.args ≤ ARGUMENTS

-- what a note says in numbers
abbrev pub IsNoteWithin : Option Note → Type 0
IsNoteWithin (Some (note.Enter s)) = HasLevel s
IsNoteWithin (Some (note.Leave s)) = HasLevel s
IsNoteWithin (Some (note.Start t s)) = Is32Bits s
IsNoteWithin (Some (note.Arm t s)) = Is32Bits s
IsNoteWithin (Some (note.Cancel t s)) = Is32Bits s
IsNoteWithin (Some (note.Move t s a)) = Is32Bits s × Is32Bits a
IsNoteWithin n = Unit {0}

-- an instruction and its note say numbers of 32 bits
pub record IsLineWithin (line : Instr × Option Note) : Type 0 where
  pub operands : AllByRecursion Is32Bits (instr_numbers line.0)
  pub note : IsNoteWithin line.1

-- the limits of applications that an image shows, and numbers of 32 bits
pub record FitsListing (img : Image) : Type 0 where
  pub least_bits : LEAST_BITS ≤ img.bits
  pub most_bits : img.bits ≤ MOST_BITS
  pub stack_bytes : Is32Bits img.stack_bytes
  pub thread_words : Is32Bits img.thread_words
  -- no more interrupts, tasks and resources than may be declared, by names that may be declared
  pub names : AreNames img.names
  pub few_cells : Is32Bits (length img.cells)
  pub cells : AllByRecursion (λ cell. Is32Bits cell.first) img.cells
  pub irqs : AllByRecursion IsIrqWithin img.irqs
  pub bodies : AllByRecursion IsBodyWithin img.bodies
  pub few_lines : length img.code ≤ CODE_SIZE
  pub code : AllByRecursion IsLineWithin img.code

-- a cell of no resource has a name with a dot in it
abbrev pub has_dot : List ℕ → Bool
has_dot name = list_any (λ b. b == 46) name

-- the names that the rows and the cells tell, in order
abbrev pub told_names : Image → Names
told_names img = record {
  irqs = map (λ row. (row.name, row.number)) img.irqs;
  tasks = map (λ row. task_name img.names row.task) img.bodies;
  shared = filter (λ name. not (has_dot name)) (map (λ cell. cell.name) img.cells);
}

-- a listing tells the image: it is within the limits, has a listing, and has the names that its rows tell
pub record IsLoadable (img : Image) : Type 0 where
  pub fits : FitsListing img
  pub listable : IsListable img
  pub names : told_names img ≡ img.names
