-- The text so far ends with the halfwords so far.
use Rattle.std.proofs.Common.{◌≡◌, ◌++◌, take}
use Rattle.rt_elf.specs.Word.{halves}
use Rattle.rt_elf.proofs.word.push_halves.Given as goal

abbrev pub invariant-loop-number : goal.invariant-loop-number
invariant-loop-number l = l.out.items ≡ l.fn.out.items ++ halves (take l.number-index l.numbers)
