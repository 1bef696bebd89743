-- The tasks so far, and those that are left.
use Rattle.std.proofs.Common.{◌≡◌, ◌++◌, map, drop}
use Rattle.rt_app.specs.View.{task_of}
use Rattle.rt_app.specs.Bodies.{task_members}
use Rattle.rt_frames.specs.Inside.Bounded.{member_bound}
use Rattle.rt_frames.proofs.bound.push_tasks.Given as goal

abbrev pub invariant-loop-number : goal.invariant-loop-number
invariant-loop-number l =
    l.bodies.items ++ map (member_bound l.measure) (task_members l.number (map task_of (drop l.number l.tasks)))
    ≡ l.fn.bodies.items ++ map (member_bound l.measure) (task_members 0 (map task_of l.tasks))
