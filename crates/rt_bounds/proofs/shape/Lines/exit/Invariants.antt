use Rattle.std.proofs.Common.{◌≤◌, ◌+◌, ◌-◌}
use Rattle.rt_bounds.proofs.Exiting.{IsFoundTo}
use Rattle.rt_bounds.proofs.shape.Lines.exit.Given as goal

abbrev pub decreases-loop-address : goal.decreases-loop-address
decreases-loop-address l = l.self.last + 1 - l.address

abbrev pub invariant-loop-address : goal.invariant-loop-address
invariant-loop-address l = record {
  from : l.self.first ≤ l.address;
  found : IsFoundTo l.image l.owner l.walk l.self l.address l.found;
}
