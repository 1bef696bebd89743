-- The layout with the ready queues of the levels so far.
use Rattle.std.proofs.Common.{◌≡◌}
use Rattle.rt_layout.specs.Inside.Growing.{with_levels}
use Rattle.rt_layout.proofs.memory.push_levels.Given as goal

abbrev pub invariant-loop-level : goal.invariant-loop-level
invariant-loop-level l = l.layout ≡ with_levels l.rooms l.fn.layout l.level
