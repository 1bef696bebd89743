-- The bytes so far.
use Rattle.std.proofs.Common.{◌≡◌, ◌++◌, map, take}
use Rattle.rt_native.specs.Symbols.{symbol_byte}
use Rattle.rt_native.proofs.symbols.push_name.Given as goal

abbrev pub invariant-loop-byte : goal.invariant-loop-byte
invariant-loop-byte l = l.out.items ≡ l.fn.out.items ++ map symbol_byte (take l.byte-index l.name)
