-- The greatest frame of the tasks so far.
use Rattle.std.proofs.Common.{◌≡◌, map, take}
use Rattle.rt_app.specs.Stack.{is_bound_at}
use Rattle.rt_app.specs.View.{task_of}
use Rattle.rt_reach.proofs.Greatest.{words, most_of}
use Rattle.rt_reach.proofs.priorities.greatest_frame.Given as goal

abbrev pub invariant-loop-number : goal.invariant-loop-number
invariant-loop-number l = l.most ≡ most_of words (is_bound_at l.priority) (map task_of (take l.number l.task-items))
