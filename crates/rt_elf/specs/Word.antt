-- The words of an ELF file: Elf32_Half and Elf32_Word, the lowest byte first (ELF specification, TIS 1.2, figure 1-2
-- and ELFDATA2LSB in figure 1-7).
use Rattle.std.specs.Prelude.{ℕ, List, flat_map}
use Rattle.std.specs.Int.{w16, w32, to_le_bytes}

-- Elf32_Half
abbrev pub half : ℕ → List ℕ
half n = to_le_bytes w16 n

-- Elf32_Word; Elf32_Addr and Elf32_Off are of the same form
abbrev pub word : ℕ → List ℕ
word n = to_le_bytes w32 n

-- halves, one behind the other
unfoldable pub halves : List ℕ → List ℕ
halves numbers = flat_map half numbers

-- words, one behind the other
unfoldable pub words : List ℕ → List ℕ
words numbers = flat_map word numbers
