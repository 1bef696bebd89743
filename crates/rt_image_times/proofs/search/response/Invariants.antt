-- No lower number suffices, and behind the first what is asked for is a number.
use Rattle.std.proofs.Common.{◌≡◌, ℕ, ◌≤◌, ◌<◌, ◌-◌}
use Rattle.rt_image_times.specs.Response.{needed, Suffices}
use Rattle.rt_image_times.specs.declared.needed.Needed.TheVariants as needs
use Rattle.rt_image_times.proofs.search.response.Given as goal

abbrev pub invariant-loop-steps : goal.invariant-loop-steps
invariant-loop-steps l = record {
  some : 1 ≤ l.steps;
  begun : 1 < l.steps → (need : ℕ) × (needed l.loads l.longest 1 ≡ needs.Steps need);
  least : (steps : ℕ) → Suffices l.loads l.longest steps → l.steps ≤ steps;
}

abbrev pub decreases-loop-steps : goal.decreases-loop-steps
decreases-loop-steps l = 1000001 - l.steps
