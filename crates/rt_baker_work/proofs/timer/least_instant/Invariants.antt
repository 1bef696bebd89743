-- The least instant of those so far.
use Rattle.std.proofs.Common.{◌≡◌, take}
use Rattle.rt_actions.specs.Content.{least_instant}
use Rattle.rt_baker_work.proofs.timer.least_instant.Given as goal

abbrev pub invariant-loop-message : goal.invariant-loop-message
invariant-loop-message l = l.least ≡ least_instant (take l.message-index l.armed)
