-- The bytes of an object (ELF specification, TIS 1.2, book I: the file's header, figure 1-3; section headers, figure
-- 1-8; relocations, figure 1-20). Behind the header come the bytes of the section, relocations, the symbol table, the
-- headers of six sections, their names, and the strings of symbols.
use Rattle.std.specs.Prelude.{ℕ, ◌+◌, ◌*◌, ◌^◌, ◌<◌, ◌≤◌, List, [], ◌∷◌, ◌++◌, codes, length, replicate}
use Rattle.rt_elf.specs.Headers.{HEADER_BYTES, SECTION_BYTES, identification}
use Rattle.rt_elf.specs.Object.{Object, object_symbols, first_wanted}
use Rattle.rt_elf.specs.Symbols.{symbol_table, symbol_table_size, strings, strings_size}
use Rattle.rt_elf.specs.Word.{halves, words}
use Rattle.rt_elf.specs.declared.object.ObjectOffsets.{ObjectOffsets}

-- the names of sections, with an empty one first; `.rtic` is the end of another
abbrev pub object_section_names : List ℕ
object_section_names =
    0 ∷ codes ".rel.rtic" ++ 0 ∷ codes ".symtab" ++ 0 ∷ codes ".strtab" ++ 0 ∷ codes ".shstrtab" ++ 0 ∷ []

-- A relocation of a BL: its displacement is to end at the function. It is R_ARM_THM_CALL (ELF for the Arm architecture,
-- section 5.6.1), of the form without an addend, Elf32_Rel, where the addend is the displacement that the section has.
abbrev pub R_ARM_THM_CALL : ℕ
R_ARM_THM_CALL = 10

-- r_offset, and r_info, which is ELF32_R_INFO of the symbol's number and the type
abbrev pub relocation : ℕ → ℕ → List ℕ
relocation symbol offset = words (offset ∷ (symbol * 2 ^ 8 + R_ARM_THM_CALL) ∷ [])

-- of calls, the first of which is of the symbol of this number
abbrev pub relocations_from : ℕ → List ℕ → List ℕ
relocations_from symbol [] = []
relocations_from symbol (offset ∷ more) = relocation symbol offset ++ relocations_from (symbol + 1) more

module _ (o : Object) where
  -- relocations, behind the bytes of the section
  abbrev pub relocations_offset : ℕ
  relocations_offset = HEADER_BYTES + length o.bytes

  -- the symbol table, behind the relocations, 8 bytes each
  abbrev pub symbols_offset : ℕ
  symbols_offset = relocations_offset + 8 * length o.calls

  -- the headers of the six sections, the empty one with them
  abbrev pub sections_offset : ℕ
  sections_offset = symbols_offset + symbol_table_size (object_symbols o)

  -- the names of sections
  abbrev pub names_offset : ℕ
  names_offset = sections_offset + 6 * SECTION_BYTES

  -- the strings of symbols, which come last
  abbrev pub strings_offset : ℕ
  strings_offset = names_offset + length object_section_names

  -- how many bytes the file has
  abbrev pub object_size : ℕ
  object_size = strings_offset + strings_size (object_symbols o)

  -- all of these, with the size of each part
  abbrev pub object_offsets_of : ObjectOffsets
  object_offsets_of = record {
    bytes_size = length o.bytes;
    relocations = relocations_offset;
    relocations_size = 8 * length o.calls;
    symbols = symbols_offset;
    symbols_size = symbol_table_size (object_symbols o);
    sections = sections_offset;
    names = names_offset;
    strings = strings_offset;
    strings_size = strings_size (object_symbols o);
  }

  -- the offsets of the file are words
  abbrev pub IsShort : Type 0
  IsShort = object_size < 2 ^ 32

  -- the number of each symbol that is called has 24 bits, as r_info takes it
  abbrev pub HasNumbers : Type 0
  HasNumbers = first_wanted o + length o.calls ≤ 2 ^ 24

  -- it has a file
  abbrev pub IsLinkable : Type 0
  IsLinkable = IsShort × HasNumbers

-- The header of the file: e_type ET_REL, e_machine EM_ARM; e_version, e_entry, e_phoff, e_shoff, e_flags
-- EF_ARM_EABI_VER5; e_ehsize, e_phentsize, e_phnum, e_shentsize, e_shnum, e_shstrndx. There are no segments, and no
-- entry.
unfoldable pub object_header : ObjectOffsets → List ℕ
object_header at =
    identification ++ halves (1 ∷ 40 ∷ []) ++ words (1 ∷ 0 ∷ 0 ∷ at.sections ∷ (5 * 2 ^ 24) ∷ [])
    ++ halves (HEADER_BYTES ∷ 0 ∷ 0 ∷ SECTION_BYTES ∷ 6 ∷ 5 ∷ [])

-- The section headers, with the fields and types of Headers.antt, and SHT_REL 9: no section; `.rtic`, at a multiple of
-- 8; its relocations, which link to the symbol table and tell the section that they are for; the symbol table, which
-- links to its strings; these; and the names of sections.
unfoldable pub object_sections : Object → ObjectOffsets → List ℕ
object_sections o at =
    words (replicate 10 0)
    ++ words (5 ∷ 1 ∷ (2 + 4) ∷ 0 ∷ HEADER_BYTES ∷ at.bytes_size ∷ 0 ∷ 0 ∷ 8 ∷ 0 ∷ [])
    ++ words (1 ∷ 9 ∷ 0 ∷ 0 ∷ at.relocations ∷ at.relocations_size ∷ 3 ∷ 1 ∷ 4 ∷ 8 ∷ [])
    ++ words (11 ∷ 2 ∷ 0 ∷ 0 ∷ at.symbols ∷ at.symbols_size ∷ 4 ∷ (1 + length o.marks) ∷ 4 ∷ 16 ∷ [])
    ++ words (19 ∷ 3 ∷ 0 ∷ 0 ∷ at.strings ∷ at.strings_size ∷ 0 ∷ 0 ∷ 1 ∷ 0 ∷ [])
    ++ words (27 ∷ 3 ∷ 0 ∷ 0 ∷ at.names ∷ length object_section_names ∷ 0 ∷ 0 ∷ 1 ∷ 0 ∷ [])

-- the bytes of an object
abbrev pub object_of : Object → List ℕ
object_of o =
    object_header (object_offsets_of o) ++ o.bytes ++ relocations_from (first_wanted o) o.calls
    ++ symbol_table (object_symbols o) ++ object_sections o (object_offsets_of o) ++ object_section_names
    ++ strings (object_symbols o)
