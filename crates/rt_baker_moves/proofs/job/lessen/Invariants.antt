-- Those so far are so much less.
use Rattle.std.proofs.Common.{◌≡◌}
use Rattle.rt_baker_moves.proofs.Jobs.{so_far}
use Rattle.rt_baker_moves.proofs.job.lessen.Given as goal

abbrev pub invariant-loop-i : goal.invariant-loop-i
invariant-loop-i l = l.numbers.items ≡ so_far l.by l.i l.initial.numbers.items
