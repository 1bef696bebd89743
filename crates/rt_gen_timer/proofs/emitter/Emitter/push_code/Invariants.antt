-- The lines of the templates so far are appended.
use Rattle.rt_gen_queue.proofs.Vocabulary.{Appends, take}
use Rattle.rt_gen_timer.proofs.emitter.Emitter.push_code.Given as goal
use Rattle.rt_gen_timer.specs.Inside.Templates.{code_of}

abbrev pub invariant-loop-template : goal.invariant-loop-template
invariant-loop-template l = Appends l.fn.lines l.lines (code_of l.self l.at (take l.template-index l.code))
