-- There are none for each number so far.
use Rattle.std.proofs.Common.{◌≡◌, [], map, replicate}
use Rattle.rt_baker_moves.proofs.reset.no_messages.Given as goal

abbrev pub invariant-loop-level : goal.invariant-loop-level
invariant-loop-level l = map (λ q. q.items) l.queues.items ≡ replicate l._level []
