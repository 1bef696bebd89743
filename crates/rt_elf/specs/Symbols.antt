-- The symbol table, and the strings that it names (ELF specification, TIS 1.2, figures 1-15 to 1-18). What a symbol
-- marks that has no type of its own, `$t` where Thumb instructions begin and `$d` where data does, is of the ELF for
-- the Arm architecture, section 4.5.5 on mapping symbols.
use Rattle.std.specs.Prelude.{ℕ, ◌+◌, ◌*◌, List, [], ◌∷◌, ◌++◌, flat_map, length, sum_by}
use Rattle.rt_elf.specs.declared.executable.Part.{Part}
use Rattle.rt_elf.specs.declared.executable.Part.TheVariants as part
use Rattle.rt_elf.specs.declared.executable.Kind.{Kind}
use Rattle.rt_elf.specs.declared.executable.Kind.TheVariants as kind
use Rattle.rt_elf.specs.declared.executable.Symbol.{Symbol}
use Rattle.rt_elf.specs.Word.{half, words}

-- st_info: the binding times 16, and the type: STB_LOCAL 0, STB_GLOBAL 1; STT_NOTYPE 0, STT_OBJECT 1, STT_FUNC 2
abbrev pub info : Kind → ℕ
info kind.Mark = 0 * 16 + 0
info kind.Object = 1 * 16 + 1
info kind.Function = 1 * 16 + 2

-- st_shndx: the section that it lies in, by its place in the table of sections; SHN_ABS and SHN_UNDEF
abbrev pub section_index : Part → ℕ
section_index part.Text = 1
section_index part.Data = 2
section_index part.Absolute = 0xFFF1
section_index part.Elsewhere = 0

-- Elf32_Sym: st_name, st_value and st_size, then st_info, st_other and st_shndx
abbrev pub symbol_entry : ℕ → Symbol → List ℕ
symbol_entry name s =
    words (name ∷ s.value ∷ s.size ∷ []) ++ info s.kind ∷ 0 ∷ half (section_index s.part)

-- how many bytes a name takes among the strings, with the 0 at its end
abbrev pub string_bytes : Symbol → ℕ
string_bytes s = length s.name + 1

-- how many bytes a symbol takes in the table and among the strings
abbrev pub symbol_bytes : Symbol → ℕ
symbol_bytes s = 17 + length s.name

-- entries, the name of the first of which begins at this place among the strings
abbrev pub symbol_entries : ℕ → List Symbol → List ℕ
symbol_entries name [] = []
symbol_entries name (s ∷ more) = symbol_entry name s ++ symbol_entries (name + string_bytes s) more

-- the symbol table: its first entry is of no symbol (figure 1-18)
unfoldable pub symbol_table : List Symbol → List ℕ
symbol_table symbols = words (0 ∷ 0 ∷ 0 ∷ 0 ∷ []) ++ symbol_entries 1 symbols

-- the strings: an empty one first (figure 1-14)
unfoldable pub strings : List Symbol → List ℕ
strings symbols = 0 ∷ flat_map (λ s. s.name ++ 0 ∷ []) symbols

-- how many bytes the symbol table has, 16 for each
abbrev pub symbol_table_size : List Symbol → ℕ
symbol_table_size symbols = 16 + 16 * length symbols

-- how many bytes the strings have
abbrev pub strings_size : List Symbol → ℕ
strings_size symbols = 1 + sum_by string_bytes symbols
