-- The text so far with the entries that are left, and the place of the next name with the names that are left.
use Rattle.std.proofs.Common.{◌≡◌, ◌+◌, ◌++◌, drop, sum_by}
use Rattle.rt_elf.specs.Symbols.{symbol_entries, string_bytes}
use Rattle.rt_elf.proofs.symbols.push_symbols.Given as goal

abbrev pub invariant-loop-symbol : goal.invariant-loop-symbol
invariant-loop-symbol l = record {
  text : l.out.items ++ symbol_entries l.name (drop l.symbol-index l.symbols)
      ≡ l.fn.out.items ++ symbol_entries l.fn.name l.symbols;
  place : l.name + sum_by string_bytes (drop l.symbol-index l.symbols) ≡ l.fn.name + sum_by string_bytes l.symbols;
}
