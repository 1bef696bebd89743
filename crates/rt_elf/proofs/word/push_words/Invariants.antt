-- The text so far ends with the words so far.
use Rattle.std.proofs.Common.{◌≡◌, ◌++◌, take}
use Rattle.rt_elf.specs.Word.{words}
use Rattle.rt_elf.proofs.word.push_words.Given as goal

abbrev pub invariant-loop-number : goal.invariant-loop-number
invariant-loop-number l = l.out.items ≡ l.fn.out.items ++ words (take l.number-index l.numbers)
