-- What is left, with the symbols that are left.
use Rattle.std.proofs.Common.{◌≡◌, ◌+◌, drop, sum_by}
use Rattle.rt_elf.specs.Symbols.{symbol_bytes}
use Rattle.rt_elf.proofs.offsets.left_of_symbols.Given as goal

abbrev pub invariant-loop-symbol : goal.invariant-loop-symbol
invariant-loop-symbol l = l.left + sum_by symbol_bytes l.symbols
    ≡ l.room + sum_by symbol_bytes (drop l.symbol-index l.symbols)
