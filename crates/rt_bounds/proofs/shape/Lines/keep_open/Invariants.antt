use Rattle.std.proofs.Common.{◌≡◌, ◌<◌, ◌≤◌, ◌+◌, ◌-◌, ℕ, List, length, Some}
use Rattle.rt_points.specs.declared.point.Opened.{Opened}
use Rattle.rt_judge.specs.Inside.Walks.{reached_by}
use Rattle.rt_bounds.specs.Inside.Shapes.{Has}
use Rattle.rt_bounds.proofs.shape.Lines.keep_open.Given as goal

abbrev pub decreases-loop-address : goal.decreases-loop-address
decreases-loop-address l = l.self.last + 1 - l.address

abbrev pub invariant-loop-address : goal.invariant-loop-address
invariant-loop-address l = record {
  from : l.self.first ≤ l.address;
  kept : (a : ℕ) (inside : List Opened) → a < l.address → Has l.self a → reached_by l.walk a ≡ Some inside
      → l.least ≤ length inside;
}
