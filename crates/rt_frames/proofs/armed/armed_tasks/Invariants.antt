-- The tasks so far, and those that are left.
use Rattle.std.proofs.Common.{◌≡◌, ℕ, ◌+◌, ◌≤◌, map, drop}
use Rattle.rt_app.specs.View.{task_of, app_of}
use Rattle.rt_app.specs.Level.{armed_count, armed_tasks}
use Rattle.rt_frames.proofs.armed.armed_tasks.Given as goal

pub record Counted (sum left all number : ℕ) : Type 0 where
  pub whole : sum + left ≡ all
  pub few : sum ≤ number

abbrev pub invariant-loop-number : goal.invariant-loop-number
invariant-loop-number l = Counted l.tasks (armed_count (app_of l.app) l.number
    (map task_of (drop l.number l.app.tasks.items))) (armed_tasks (app_of l.app)) l.number
