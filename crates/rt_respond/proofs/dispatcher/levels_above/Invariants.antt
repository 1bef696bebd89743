-- The levels so far are counted.
use Rattle.std.proofs.Common.{◌≡◌}
use Rattle.rt_respond.proofs.Dispatchers.{above}
use Rattle.rt_respond.proofs.dispatcher.levels_above.Given as goal

abbrev pub invariant-loop-level : goal.invariant-loop-level
invariant-loop-level l = l.count ≡ above l.tasks l.priority l.level
