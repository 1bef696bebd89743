-- The bytes of an executable file (ELF specification, TIS 1.2, figure 1-1).
use Rattle.std.specs.Prelude.{ℕ, List, ◌++◌}
use Rattle.rt_elf.specs.Executable.{Executable, all_symbols}
use Rattle.rt_elf.specs.Headers.{file_header, segment_headers, section_headers, section_names}
use Rattle.rt_elf.specs.Offsets.{offsets_of}
use Rattle.rt_elf.specs.Symbols.{symbol_table, strings}

-- the bytes of the file, part behind part in the order of Offsets.antt
abbrev pub elf_of : Executable → List ℕ
elf_of e =
    file_header e (offsets_of e) ++ segment_headers e (offsets_of e) ++ e.text ++ e.values
    ++ symbol_table (all_symbols e) ++ section_headers e (offsets_of e) ++ section_names ++ strings (all_symbols e)
