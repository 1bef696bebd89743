use Rattle.std.proofs.Common.{◌<◌, ◌≤◌, ◌+◌, ◌-◌, ℕ}
use Rattle.rt_bounds.specs.Counting.{IsInside}
use Rattle.rt_bounds.specs.Inside.Countings.{IsOnceAt}
use Rattle.rt_bounds.proofs.counting.Place.is_once.Given as goal

abbrev pub decreases-loop-address : goal.decreases-loop-address
decreases-loop-address l = l.self.last + 1 - l.address

abbrev pub invariant-loop-address : goal.invariant-loop-address
invariant-loop-address l = record {
  from : l.self.first ≤ l.address;
  once : (a : ℕ) → a < l.address → IsInside l.self a → IsOnceAt l.image l.walk l.self l.change a;
}
