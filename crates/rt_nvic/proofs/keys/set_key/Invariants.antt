-- The leaf has its key, and each node but one has the lesser of the keys below it.
use Rattle.std.proofs.Common.{◌≡◌, ℕ, ◌+◌, ◌/◌, ◌<◌, ◌≤◌, length, get_or, set}
use Rattle.rt_nvic.specs.declared.sizes.TheConstants.{LEAVES, NODES}
use Rattle.rt_nvic.proofs.Tournament.{IsButOne}
use Rattle.rt_nvic.proofs.keys.set_key.Given as goal

abbrev pub invariant-loop-at : goal.invariant-loop-at
invariant-loop-at l = record {
  some : 0 < l.at;
  within : l.at < NODES;
  long : length l.nodes ≡ NODES;
  nodes : IsButOne l.nodes (l.at / 2);
  leaves : (i : ℕ) → LEAVES ≤ i → get_or l.nodes i 0 ≡ get_or (set l.fn.nodes (LEAVES + l.number) l.key) i 0;
}

abbrev pub decreases-loop-at : goal.decreases-loop-at
decreases-loop-at l = l.at
