use Rattle.std.proofs.Common.{◌≡◌, ◌++◌, flat_map}
use Rattle.rt_ids.specs.Lists.{numbers_below}
use Rattle.rt_soak.specs.Demo.{interrupt}
use Rattle.rt_soak.proofs.demo_text.push_interrupts.Given as goal

abbrev pub invariant-loop-k : goal.invariant-loop-k
invariant-loop-k l = l.out.items ≡ l.fn.out.items ++ flat_map interrupt (numbers_below l.k)
