-- The arguments so far are stored.
use Rattle.rt_gen_queue.proofs.Vocabulary.{Appends, store_code}
use Rattle.rt_gen_queue.proofs.parts.store.Given as goal

abbrev pub invariant-loop-argument : goal.invariant-loop-argument
invariant-loop-argument l = Appends l.fn.lines l.lines (store_code l.argument l.target.inputs l.slot 0)
