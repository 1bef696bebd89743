-- None of the tasks so far is it.
use Rattle.std.proofs.Common.{◌≡◌, ◌==◌, ◌&&◌, find, map, take, None}
use Rattle.rt_app.specs.Stack.{is_bound_at}
use Rattle.rt_app.specs.View.{task_of}
use Rattle.rt_reach.proofs.Greatest.{words}
use Rattle.rt_reach.proofs.priorities.index_bound.Given as goal

abbrev pub invariant-loop-number : goal.invariant-loop-number
invariant-loop-number l =
    find (λ t. is_bound_at l.priority t && (words t == l.words)) (map task_of (take l.number l.task-items)) ≡ None
