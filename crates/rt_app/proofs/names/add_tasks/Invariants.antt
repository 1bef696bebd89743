use Rattle.std.proofs.Common.{◌≡◌, map, take}
use Rattle.rt_app.proofs.names.add_tasks.Given as goal

abbrev pub invariant-loop-t : goal.invariant-loop-t
invariant-loop-t l = l.names ≡ record l.initial.names { tasks = take l.t-index (map (λ t. t.name) l.tasks) }
