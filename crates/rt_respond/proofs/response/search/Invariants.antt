-- No lower number suffices, and behind the first what is asked for is a number.
use Rattle.std.proofs.Common.{ℕ, ◌≤◌, ◌<◌, ◌-◌, IsSome}
use Rattle.rt_app.specs.Tree.{App}
use Rattle.rt_respond.specs.Response.{needed, Suffices}
use Rattle.rt_respond.specs.Inside.Searching.{IsAsked}
use Rattle.rt_respond.specs.declared.handler.Quantity.TheVariants as counted
use Rattle.rt_respond.proofs.response.search.Given as goal

abbrev pub invariant-loop-steps : goal.invariant-loop-steps
invariant-loop-steps l = record {
  some : 1 ≤ l.steps;
  begun : (app : App) → IsAsked app counted.Steps l.asked → 1 < l.steps
      → IsSome (needed app l.asked.limits.now counted.Steps l.asked.this.now 1);
  least : (app : App) → IsAsked app counted.Steps l.asked → (steps : ℕ)
      → Suffices app l.asked.limits.now l.asked.this.now steps
      → l.steps ≤ steps;
}

abbrev pub decreases-loop-steps : goal.decreases-loop-steps
decreases-loop-steps l = 1000001 - l.steps
