-- The lines of the parts so far are appended.
use Rattle.rt_gen_queue.proofs.Vocabulary.{Appends, take}
use Rattle.rt_gen_timer.proofs.emitter.Emitter.push.Given as goal
use Rattle.rt_gen_timer.specs.Inside.Templates.{all_lines}

abbrev pub invariant-loop-part : goal.invariant-loop-part
invariant-loop-part l = Appends l.fn.lines l.lines (all_lines l.self (take l.part-index l.parts))
