use Rattle.std.specs.Mem.Slots.{slots_items}
use Rattle.rt_words.proofs.Closing.{Copied}
use Rattle.rt_words.proofs.words.bits_in.Given as goal

abbrev pub invariant-loop-k : goal.invariant-loop-k
invariant-loop-k l = Copied (slots_items l.closed.words) l.bits l.k
