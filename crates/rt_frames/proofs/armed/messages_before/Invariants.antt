-- The messages of the tasks so far.
use Rattle.std.proofs.Common.{◌≡◌, ℕ, ◌*◌, ◌≤◌}
use Rattle.rt_app.specs.View.{app_of}
use Rattle.rt_app.specs.Level.{capacities_before}
use Rattle.rt_frames.proofs.armed.messages_before.Given as goal

pub record Counted (sum before number : ℕ) : Type 0 where
  pub value : sum ≡ before
  pub few : sum ≤ 255 * number

abbrev pub invariant-loop-number : goal.invariant-loop-number
invariant-loop-number l = Counted l.messages (capacities_before (app_of l.app) l.number) l.number
