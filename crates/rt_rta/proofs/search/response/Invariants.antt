-- No lower number suffices.
use Rattle.std.proofs.Common.{ℕ, ◌≤◌, ◌-◌}
use Rattle.rt_rta.specs.Inside.Least.{IsEnough}
use Rattle.rt_rta.proofs.search.response.Given as goal

abbrev pub invariant-loop-steps : goal.invariant-loop-steps
invariant-loop-steps l = record {
  some : 1 ≤ l.steps;
  least : (steps : ℕ) → IsEnough l.all l.wait steps → l.steps ≤ steps;
}

abbrev pub decreases-loop-steps : goal.decreases-loop-steps
decreases-loop-steps l = 1000001 - l.steps
