-- The bodies so far, and those of the tasks that are left.
use Rattle.std.proofs.Common.{◌≡◌, ◌++◌, map, drop}
use Rattle.rt_app.specs.View.{task_of}
use Rattle.rt_app.specs.Bodies.{task_members}
use Rattle.rt_rules.specs.Inside.View.{member_of}
use Rattle.rt_rules.proofs.member.push_tasks.Given as goal

abbrev pub invariant-loop-number : goal.invariant-loop-number
invariant-loop-number l = map member_of l.members.items ++ task_members l.number (map task_of (drop l.number l.tasks))
    ≡ map member_of l.fn.members.items ++ task_members 0 (map task_of l.tasks)
