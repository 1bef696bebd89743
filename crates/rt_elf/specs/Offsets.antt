-- Where the parts of a file begin, and how long they are: behind the headers of the file and of its two segments come
-- the bytes of `.text` and of `.data`, the symbol table, the headers of seven sections, the names of sections, and the
-- strings of symbols. The ELF specification (TIS 1.2, figure 1-1) leaves this order free, save that the header of the
-- file comes first.
use Rattle.std.specs.Prelude.{ℕ, ◌+◌, ◌*◌, length}
use Rattle.rt_elf.specs.Executable.{Executable, all_symbols}
use Rattle.rt_elf.specs.Headers.{HEADER_BYTES, SEGMENT_BYTES, SECTION_BYTES, section_names}
use Rattle.rt_elf.specs.Symbols.{symbol_table_size, strings_size}
use Rattle.rt_elf.specs.declared.offsets.Offsets.{Offsets}

-- `.text`, behind the headers of the file and of two segments
abbrev pub text_offset : ℕ
text_offset = HEADER_BYTES + 2 * SEGMENT_BYTES

module _ (e : Executable) where
  -- `.data`, behind `.text`
  abbrev pub data_offset : ℕ
  data_offset = text_offset + length e.text

  -- the symbol table, behind `.data`
  abbrev pub symbols_offset : ℕ
  symbols_offset = data_offset + length e.values

  -- the headers of the seven sections, the empty one with them
  abbrev pub sections_offset : ℕ
  sections_offset = symbols_offset + symbol_table_size (all_symbols e)

  -- the names of sections
  abbrev pub names_offset : ℕ
  names_offset = sections_offset + 7 * SECTION_BYTES

  -- the strings of symbols, which come last
  abbrev pub strings_offset : ℕ
  strings_offset = names_offset + length section_names

  -- how many bytes the file has
  abbrev pub file_size : ℕ
  file_size = strings_offset + strings_size (all_symbols e)

  -- all of these, with the size of each part
  abbrev pub offsets_of : Offsets
  offsets_of = record {
    text = text_offset;
    text_size = length e.text;
    values = data_offset;
    values_size = length e.values;
    symbols = symbols_offset;
    symbols_size = symbol_table_size (all_symbols e);
    sections = sections_offset;
    names = names_offset;
    strings = strings_offset;
    strings_size = strings_size (all_symbols e);
  }
