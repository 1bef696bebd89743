-- The object of an image, for a linker that joins it with functions of C: one section, whose bytes are those of flash,
-- and its symbols. All addresses in it are the target's, so it is to be linked at the address of flash; of the code
-- only the calls of functions are the linker's to write. Such a function has the name of its interrupt, with `_in`
-- behind.
use Rattle.std.specs.Prelude.{ℕ, ◌+◌, if◌then◌else◌, List, [], ◌∷◌, ◌++◌, codes, flat_map, map, slice_index}
use Rattle.rt_code.specs.Image.{Image}
use Rattle.rt_code.specs.declared.image.IrqRow.{IrqRow}
use Rattle.rt_ids.specs.Operation.{wrapped_number as word}
use Rattle.rt_elf.specs.Object.{Object}
use Rattle.rt_elf.specs.declared.executable.Kind.TheVariants as kind
use Rattle.rt_elf.specs.declared.executable.Part.{Part}
use Rattle.rt_elf.specs.declared.executable.Part.TheVariants as part
use Rattle.rt_elf.specs.declared.executable.Symbol.{Symbol}
use Rattle.rt_native.specs.Layout.{stub_places}
use Rattle.rt_native.specs.Pieces.{leap}
use Rattle.rt_native.specs.Program.{text, values}
use Rattle.rt_native.specs.Service.{call_offset, calls_first}
use Rattle.rt_native.specs.Symbols as executable
use Rattle.rt_native.specs.Symbols.{symbol_byte}
use Rattle.rt_native.specs.Target.{Target}

-- the value of a symbol: of code, how far it is from the address of flash
abbrev pub section_value : ℕ → Part → ℕ → ℕ
section_value flash part.Text value = leap flash value
section_value flash other value = value

-- the part that it lies in: the address of data is absolute
abbrev pub section_part : Part → Part
section_part part.Data = part.Absolute
section_part other = other

-- a symbol of the executable, as the object has it
abbrev pub in_section : ℕ → Symbol → Symbol
in_section flash s = record {
  name = s.name;
  value = section_value flash s.part s.value;
  size = s.size;
  kind = s.kind;
  part = section_part s.part;
}

-- the symbol of the function of an interrupt
abbrev pub wanted : List ℕ → Symbol
wanted name = record {
  name = map symbol_byte name ++ codes "_in";
  value = 0;
  size = 0;
  kind = kind.Function;
  part = part.Elsewhere;
}

-- the symbol that a row of the table wants from elsewhere, where its handler calls a function first
abbrev pub row_wanted : List ℕ → IrqRow → List Symbol
row_wanted calls row = if calls_first calls row.number row.handler then wanted row.name ∷ [] else []

-- where the BL of a row lies, whose code begins at a place: how far it is from the address of flash
abbrev pub row_call : Target → ℕ → IrqRow → List ℕ
row_call target place row =
    if calls_first target.calls row.number row.handler
    then leap target.flash.address (word (place + call_offset)) ∷ [] else []

-- those of rows, the first of which has this index; the code of each row begins at the place of its index
abbrev pub row_calls : Target → List ℕ → ℕ → List IrqRow → List ℕ
row_calls target begins k [] = []
row_calls target begins k (row ∷ rows) =
    row_call target (slice_index begins k) row ++ row_calls target begins (k + 1) rows

-- the object of an image
abbrev pub object : Image → Target → Object
object img target = record {
  bytes = text img target ++ values img;
  marks = map (in_section target.flash.address) (executable.marks img target);
  symbols = map (in_section target.flash.address) (executable.symbols img target);
  wanted = flat_map (row_wanted target.calls) img.irqs;
  calls = row_calls target (stub_places img target) 0 img.irqs;
}
