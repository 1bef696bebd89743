use Rattle.std.proofs.Common.{◌≡◌, ◌<◌, ◌≤◌, ◌+◌, ◌-◌, ℕ, true, slice_get, Some}
use Rattle.rt_judge.specs.Inside.Tables.{found}
use Rattle.rt_judge.specs.declared.nesting.Nesting.{Nesting}
use Rattle.rt_bounds.specs.Inside.Shapes.{Has, is_closed_by}
use Rattle.rt_bounds.proofs.shape.Lines.are_closed.Given as goal

abbrev pub decreases-loop-address : goal.decreases-loop-address
decreases-loop-address l = l.self.last + 1 - l.address

abbrev pub invariant-loop-address : goal.invariant-loop-address
invariant-loop-address l = record {
  from : l.self.first ≤ l.address;
  closed : (a : ℕ) (nesting : Nesting) → a < l.address → Has l.self a → found l.walk.table a ≡ Some nesting
      → is_closed_by l.self l.head a (slice_get l.sources a) ≡ true;
}
