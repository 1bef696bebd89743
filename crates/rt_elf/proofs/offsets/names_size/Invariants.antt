-- The size so far, with the names that are left.
use Rattle.std.proofs.Common.{◌≡◌, ◌+◌, drop, sum_by}
use Rattle.rt_elf.specs.Symbols.{string_bytes}
use Rattle.rt_elf.proofs.offsets.names_size.Given as goal

abbrev pub invariant-loop-symbol : goal.invariant-loop-symbol
invariant-loop-symbol l = l.size + sum_by string_bytes (drop l.symbol-index l.symbols) ≡ sum_by string_bytes l.symbols
