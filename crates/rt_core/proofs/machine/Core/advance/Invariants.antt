use Rattle.std.proofs.Common.{◌≡◌, ◌-◌, ◌<◌, ◌≤◌, None}
use Rattle.rt_core.specs.Reaching.{Reaches}
use Rattle.rt_core.proofs.machine.Core.advance.Given as goal

abbrev pub invariant-loop-left : goal.invariant-loop-left
invariant-loop-left l = record {
  reached : Reaches l.fn.self.image l.fn.self.core l.self.core (l.fn.left - l.left) None;
  some : 0 < l.left;
  within : l.left ≤ l.fn.left;
  rest : l.self ≡ record l.fn.self { core = l.self.core };
}

abbrev pub decreases-loop-left : goal.decreases-loop-left
decreases-loop-left l = l.left
