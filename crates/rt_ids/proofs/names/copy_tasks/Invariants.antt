use Rattle.std.proofs.Common.{◌≡◌, take}
use Rattle.rt_ids.proofs.names.copy_tasks.Given as goal

abbrev pub invariant-loop-place : goal.invariant-loop-place
invariant-loop-place l = l.to ≡ record l.initial.to { tasks = take l.place l.from.tasks }
