use Rattle.std.proofs.Common.{◌≡◌, ◌++◌, flat_map}
use Rattle.rt_ids.specs.Lists.{numbers_below}
use Rattle.rt_soak.specs.Demo.{demo_task}
use Rattle.rt_soak.proofs.demo_text.push_tasks.Given as goal

abbrev pub invariant-loop-k : goal.invariant-loop-k
invariant-loop-k l = l.out.items ≡ l.fn.out.items ++ flat_map demo_task (numbers_below l.k)
