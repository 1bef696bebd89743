-- Of which images the traces have lines that can be written and read back: each item has the names that its line needs.
-- A core runs others too; who writes a trace, or the text of an image, asks for this.
use Rattle.std.specs.Prelude.{Option, Some, IsSome}
use Rattle.std.specs.List.{AllByRecursion, Contains}
use Rattle.rt_ids.specs.Names.{AreNames}
use Rattle.rt_ids.specs.declared.ids.Section.TheVariants as section
use Rattle.rt_code.specs.Cells.{resource_cell}
use Rattle.rt_code.specs.Image.{Image}
use Rattle.rt_code.specs.Listable.{IsListable}
use Rattle.rt_code.specs.declared.instr.Note.{Note}
use Rattle.rt_code.specs.declared.instr.Note.TheVariants as note

-- a resource that the note leaves has a cell of its name
abbrev pub HasCell : Image → Option Note → Type 0
HasCell img (Some (note.Leave (section.Res r))) = IsSome (resource_cell img r)
HasCell img n = Unit {0}

-- the traces of an image have lines that are written and read back, because each name that they need is there
pub record HasLines (img : Image) : Type 0 where
  pub listable : IsListable img
  pub names : AreNames img.names
  -- the interrupt of each row is among the names, with its number
  pub irqs : AllByRecursion (λ row. Contains img.names.irqs (row.name, row.number)) img.irqs
  -- each resource that a note leaves has a cell of its name
  pub left : AllByRecursion (λ line. HasCell img line.1) img.code
