-- All lines are those of the tasks so far and those of the others.
use Rattle.rt_gen_timer.proofs.Choosing.{AreLeft, begun}
use Rattle.rt_gen_timer.proofs.timer.push_tasks.Given as goal

abbrev pub invariant-loop-number : goal.invariant-loop-number
invariant-loop-number l = AreLeft (begun l.plan.app.now l.threshold l.fn.lines) l.number l.lines
