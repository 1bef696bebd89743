-- What an executable has: code and data with their addresses, room for the stack, an entry and symbols (ELF
-- specification, TIS 1.2, book I: sections, symbols and segments). Headers.antt says what becomes of each.
use Rattle.std.specs.Prelude.{ℕ, List, ◌++◌}
use Rattle.rt_elf.specs.declared.executable.Symbol.{Symbol}

-- the parts of an executable, and where each of them lies
pub record Executable : Type 0 where
  -- the address at which it begins, with bit 0 set where the code is of Thumb instructions
  pub entry : ℕ
  -- where the bytes of code lie
  pub text_address : ℕ
  pub text : List ℕ
  -- where the bytes of data lie as the program runs, and where before they are copied
  pub data_address : ℕ
  pub data_load : ℕ
  pub values : List ℕ
  -- room that no bytes are given for
  pub stack_address : ℕ
  pub stack_bytes : ℕ
  -- symbols that are local to the file
  pub marks : List Symbol
  -- symbols that other files may name
  pub symbols : List Symbol

-- all symbols: those that are local come first
abbrev pub all_symbols : Executable → List Symbol
all_symbols e = e.marks ++ e.symbols
