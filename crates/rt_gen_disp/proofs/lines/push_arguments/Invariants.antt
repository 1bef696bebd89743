-- The lines of the arguments so far.
use Rattle.rt_gen_queue.proofs.Vocabulary.{Appends}
use Rattle.rt_gen_disp.proofs.lines.push_arguments.Given as goal
use Rattle.rt_gen_disp.specs.Code.{argument_lines}

abbrev pub invariant-loop-argument : goal.invariant-loop-argument
invariant-loop-argument l = Appends l.fn.lines l.lines (argument_lines l.called.inputs l.argument)
