-- What the tasks so far ask for, each no more than a task may.
use Rattle.std.proofs.Common.{◌≡◌, ◌≤◌, ◌*◌, take}
use Rattle.rt_rta.specs.declared.search.TheConstants.{MOST_DEMAND}
use Rattle.rt_rta.specs.Inside.Loads.{loads_demand}
use Rattle.rt_rta.proofs.search.demand.Given as goal

abbrev pub invariant-loop-load : goal.invariant-loop-load
invariant-loop-load l = record {
  value : l.sum ≡ loads_demand l.priority l.steps (take l.load-index l.all);
  most : l.sum ≤ l.load-index * MOST_DEMAND;
}
