use Rattle.std.proofs.Common.{ℕ}
use Rattle.rt_points.specs.declared.point.Owner.{Owner}
use Rattle.rt_bounds.specs.Holding.{HoldsAfter}
use Rattle.rt_bounds.specs.Inside.Sources.{AreSources}
use Rattle.rt_bounds.proofs.holding.held_after.Given as goal

abbrev pub invariant-loop-at : goal.invariant-loop-at
invariant-loop-at l = (owner : Owner) → AreSources l.image owner l.sources → (value : ℕ)
    → (HoldsAfter l.image owner l.slot value l.at → HoldsAfter l.image owner l.slot value l.address)
    × (HoldsAfter l.image owner l.slot value l.address → HoldsAfter l.image owner l.slot value l.at)

abbrev pub decreases-loop-at : goal.decreases-loop-at
decreases-loop-at l = l.at
