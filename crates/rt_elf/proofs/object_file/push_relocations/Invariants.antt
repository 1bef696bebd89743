-- The text so far with the relocations that are left, and the number of the next symbol.
use Rattle.std.proofs.Common.{◌≡◌, ◌+◌, ◌++◌, drop}
use Rattle.rt_elf.specs.Linking.{relocations_from}
use Rattle.rt_elf.proofs.object_file.push_relocations.Given as goal

abbrev pub invariant-loop-offset : goal.invariant-loop-offset
invariant-loop-offset l = record {
  text : l.out.items ++ relocations_from l.symbol (drop l.offset-index l.calls)
      ≡ l.fn.out.items ++ relocations_from l.first l.calls;
  number : l.symbol ≡ l.first + l.offset-index;
}
