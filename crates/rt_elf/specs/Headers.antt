-- The headers of an executable (ELF specification, TIS 1.2: the ELF header, figure 1-3; section headers, figure 1-8;
-- program headers, figure 2-1). Where the parts of the file begin is in Offsets.antt.
use Rattle.std.specs.Prelude.{ℕ, ◌+◌, ◌*◌, ◌^◌, List, [], ◌∷◌, ◌++◌, codes, length, replicate}
use Rattle.rt_elf.specs.Executable.{Executable}
use Rattle.rt_elf.specs.declared.offsets.Offsets.{Offsets}
use Rattle.rt_elf.specs.Word.{halves, words}

-- e_ehsize: how many bytes the header of the file has
abbrev pub HEADER_BYTES : ℕ
HEADER_BYTES = 52

-- e_phentsize: how many bytes the header of a segment has
abbrev pub SEGMENT_BYTES : ℕ
SEGMENT_BYTES = 32

-- e_shentsize: how many bytes the header of a section has
abbrev pub SECTION_BYTES : ℕ
SECTION_BYTES = 40

-- the names of sections, with an empty one first
abbrev pub section_names : List ℕ
section_names =
    0 ∷ codes ".text" ++ 0 ∷ codes ".data" ++ 0 ∷ codes ".stack" ++ 0 ∷ codes ".symtab" ++ 0 ∷ codes ".strtab"
    ++ 0 ∷ codes ".shstrtab" ++ 0 ∷ []

-- e_ident: EI_MAG0 to EI_MAG3, ELFCLASS32, ELFDATA2LSB, EV_CURRENT, and nine bytes of padding
abbrev pub identification : List ℕ
identification = 127 ∷ codes "ELF" ++ 1 ∷ 1 ∷ 1 ∷ replicate 9 0

-- The ELF header: e_type ET_EXEC, e_machine EM_ARM; e_version, e_entry, e_phoff, e_shoff, e_flags EF_ARM_EABI_VER5;
-- e_ehsize, e_phentsize, e_phnum, e_shentsize, e_shnum, e_shstrndx.
unfoldable pub file_header : Executable → Offsets → List ℕ
file_header e at =
    identification ++ halves (2 ∷ 40 ∷ [])
    ++ words (1 ∷ e.entry ∷ HEADER_BYTES ∷ at.sections ∷ (5 * 2 ^ 24) ∷ [])
    ++ halves (HEADER_BYTES ∷ SEGMENT_BYTES ∷ 2 ∷ SECTION_BYTES ∷ 7 ∷ 6 ∷ [])

-- The program headers: p_type PT_LOAD, p_offset, p_vaddr, p_paddr, p_filesz, p_memsz, p_flags (PF_X 1, PF_W 2, PF_R 4)
-- and p_align.
unfoldable pub segment_headers : Executable → Offsets → List ℕ
segment_headers e at =
    words (1 ∷ at.text ∷ e.text_address ∷ e.text_address ∷ at.text_size ∷ at.text_size ∷ (4 + 1) ∷ 4 ∷ [])
    ++ words (1 ∷ at.values ∷ e.data_address ∷ e.data_load ∷ at.values_size ∷ at.values_size ∷ (4 + 2) ∷ 4 ∷ [])

-- The section headers: sh_name, sh_type, sh_flags, sh_addr, sh_offset, sh_size, sh_link, sh_info, sh_addralign and
-- sh_entsize. Types: SHT_NULL 0, SHT_PROGBITS 1, SHT_SYMTAB 2, SHT_STRTAB 3, SHT_NOBITS 8; flags: SHF_WRITE 1,
-- SHF_ALLOC 2, SHF_EXECINSTR 4.
unfoldable pub loaded_sections : Executable → Offsets → List ℕ
loaded_sections e at =
    words (1 ∷ 1 ∷ (2 + 4) ∷ e.text_address ∷ at.text ∷ at.text_size ∷ 0 ∷ 0 ∷ 4 ∷ 0 ∷ [])
    ++ words (7 ∷ 1 ∷ (2 + 1) ∷ e.data_address ∷ at.values ∷ at.values_size ∷ 0 ∷ 0 ∷ 4 ∷ 0 ∷ [])
    ++ words (13 ∷ 8 ∷ (2 + 1) ∷ e.stack_address ∷ at.symbols ∷ e.stack_bytes ∷ 0 ∷ 0 ∷ 8 ∷ 0 ∷ [])

-- The section of the symbol table links to its strings, and its sh_info is one more than the index of its last local
-- symbol (figure 1-13).
unfoldable pub section_headers : Executable → Offsets → List ℕ
section_headers e at =
    words (replicate 10 0) ++ loaded_sections e at
    ++ words (20 ∷ 2 ∷ 0 ∷ 0 ∷ at.symbols ∷ at.symbols_size ∷ 5 ∷ (1 + length e.marks) ∷ 4 ∷ 16 ∷ [])
    ++ words (28 ∷ 3 ∷ 0 ∷ 0 ∷ at.strings ∷ at.strings_size ∷ 0 ∷ 0 ∷ 1 ∷ 0 ∷ [])
    ++ words (36 ∷ 3 ∷ 0 ∷ 0 ∷ at.names ∷ length section_names ∷ 0 ∷ 0 ∷ 1 ∷ 0 ∷ [])
