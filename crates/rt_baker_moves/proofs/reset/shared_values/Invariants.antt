-- The first values so far.
use Rattle.std.proofs.Common.{◌≡◌, map, take}
use Rattle.rt_baker_moves.proofs.reset.shared_values.Given as goal

abbrev pub invariant-loop-resource : goal.invariant-loop-resource
invariant-loop-resource l = l.values.items ≡ map (λ r. r.first) (take l.resource-index l.shared)
