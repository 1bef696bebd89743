-- What an object has, a file that a linker joins with others: one section, symbols, and calls of functions that other
-- files have (ELF specification, TIS 1.2, book I: relocatable files). Linking.antt says what becomes of each.
use Rattle.std.specs.Prelude.{ℕ, ◌+◌, List, ◌++◌, length}
use Rattle.rt_elf.specs.declared.executable.Symbol.{Symbol}

-- the one section of an object, its symbols, and its calls of others' functions
pub record Object : Type 0 where
  -- the bytes of the section
  pub bytes : List ℕ
  -- symbols that are local to the file
  pub marks : List Symbol
  -- symbols that other files may name
  pub symbols : List Symbol
  -- the symbols of functions that other files have, one for each call
  pub wanted : List Symbol
  -- where those are called, in the same order: the offset of each BL in the section
  pub calls : List ℕ

-- all symbols: those that are local come first
abbrev pub object_symbols : Object → List Symbol
object_symbols o = o.marks ++ (o.symbols ++ o.wanted)

-- the number of the first symbol that another file has; 0 is that of no symbol
abbrev pub first_wanted : Object → ℕ
first_wanted o = 1 + length o.marks + length o.symbols
