-- The symbols of a program, so that debuggers and C code find its code and its cells, and the executable that it is.
-- The names are this project's own; a dot, which C has in no name, becomes a low line.
use Rattle.std.specs.Prelude.{ℕ, ◌+◌, ◌==◌, if◌then◌else◌, List, [], ◌∷◌, ◌++◌, codes, map, slice_index}
use Rattle.std.specs.Prelude.{Option, Some, None}
use Rattle.rt_ids.specs.Names.{Names}
use Rattle.rt_ids.specs.Naming.{task_name}
use Rattle.rt_ids.specs.Operation.{wrapped_number as word}
use Rattle.rt_ids.specs.declared.cell.CellRow.{CellRow}
use Rattle.rt_code.specs.Image.{Image}
use Rattle.rt_code.specs.declared.image.BodyRow.{BodyRow}
use Rattle.rt_code.specs.declared.image.Handler.{Handler}
use Rattle.rt_code.specs.declared.image.IrqRow.{IrqRow}
use Rattle.rt_elf.specs.Executable.{Executable}
use Rattle.rt_elf.specs.declared.executable.Kind.{Kind}
use Rattle.rt_elf.specs.declared.executable.Kind.TheVariants as kind
use Rattle.rt_elf.specs.declared.executable.Part.{Part}
use Rattle.rt_elf.specs.declared.executable.Part.TheVariants as part
use Rattle.rt_elf.specs.declared.executable.Symbol.{Symbol}
use Rattle.rt_native.specs.Layout.{stack_room, stack_top, outside, places, stub_places, fault_at, tick_at, reset_at}
use Rattle.rt_native.specs.Layout.{load_at}
use Rattle.rt_native.specs.Program.{text, values}
use Rattle.rt_native.specs.Target.{Target}

-- a byte of a name, as a symbol has it
abbrev pub symbol_byte : ℕ → ℕ
symbol_byte byte = if byte == 46 then 95 else byte

-- a symbol is of code, of a word of data, or a mark
abbrev pub part_of : Kind → Part
part_of kind.Mark = part.Text
part_of kind.Object = part.Data
part_of kind.Function = part.Text

-- the bytes that a symbol stands for: a word of data has 4, and of code no size is said
abbrev pub size_of : Kind → ℕ
size_of kind.Mark = 0
size_of kind.Object = 4
size_of kind.Function = 0

-- a symbol of a kind at a value; its name is the front and what is named, with `_` for each dot
abbrev pub symbol : List ℕ → List ℕ → ℕ → Kind → Symbol
symbol front name value kind = record {
  name = front ++ map symbol_byte name;
  value = value;
  size = size_of kind;
  kind = kind;
  part = part_of kind;
}

-- the symbol of code, whose bit 0 says that it is of Thumb instructions
abbrev pub function : List ℕ → List ℕ → ℕ → Symbol
function front name place = symbol front name (word (place + 1)) kind.Function

-- the symbol of a word
abbrev pub object : List ℕ → List ℕ → ℕ → Symbol
object front name place = symbol front name place kind.Object

-- what serves an interrupt, where it is enabled
abbrev pub handler_symbol : List ℕ → ℕ → Option Handler → List Symbol
handler_symbol name place None = []
handler_symbol name place (Some h) = function (codes "handler_") name place ∷ []

-- of rows, the first of which has this index; the code of each row begins at the place of its index
abbrev pub handler_symbols : List ℕ → ℕ → List IrqRow → List Symbol
handler_symbols begins k [] = []
handler_symbols begins k (row ∷ rows) =
    handler_symbol row.name (slice_index begins k) row.handler ++ handler_symbols begins (k + 1) rows

-- the body of a software task
abbrev pub body_symbol : Names → List ℕ → BodyRow → Symbol
body_symbol names places row = function (codes "body_") (task_name names row.task) (slice_index places row.entry)

-- cells, the first of which has this address
abbrev pub cell_symbols : ℕ → List CellRow → List Symbol
cell_symbols address [] = []
cell_symbols address (cell ∷ cells) =
    object (codes "cell_") cell.name address ∷ cell_symbols (word (address + 4)) cells

module _ (img : Image) (target : Target) where
  -- `$d` where the vector table begins, `$t` where instructions do
  abbrev pub marks : List Symbol
  marks =
      symbol (codes "$d") [] target.flash.address kind.Mark ∷ symbol (codes "$t") [] (fault_at img target) kind.Mark
      ∷ []

  -- the names of everything that has an address: functions in the order of their places, then what lies in RAM
  abbrev pub symbols : List Symbol
  symbols =
      function (codes "fault") [] (fault_at img target) ∷ function (codes "tick") [] (tick_at img target)
      ∷ function (codes "reset") [] (reset_at img target)
      ∷ function (codes "init") [] (slice_index (places img target) 0)
      ∷ handler_symbols (stub_places img target) 0 img.irqs
      ++ map (body_symbol img.names (places img target)) img.bodies
      ++ cell_symbols (stack_top img target) img.cells
      ++ object (codes "time") [] (outside img target).time
      ∷ object (codes "alarm") [] (word ((outside img target).time + 4)) ∷ []

  -- the executable of an image
  abbrev pub executable : Executable
  executable = record {
    entry = word (reset_at img target + 1);
    text_address = target.flash.address;
    text = text img target;
    data_address = stack_top img target;
    data_load = load_at img target;
    values = values img;
    stack_address = target.ram.address;
    stack_bytes = stack_room img target;
    marks = marks;
    symbols = symbols;
  }
