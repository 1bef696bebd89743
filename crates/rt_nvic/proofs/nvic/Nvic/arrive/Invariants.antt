-- The requests of the bits so far are pending.
use Rattle.std.proofs.Common.{◌≡◌, ◌-◌, ◌≤◌}
use Rattle.rt_ids.specs.Arrivals.{arrivals_below, pending_with}
use Rattle.rt_nvic.proofs.nvic.Nvic.arrive.Given as goal

abbrev pub invariant-loop-from : goal.invariant-loop-from
invariant-loop-from l = record {
  within : l.from ≤ 32;
  state : l.self ≡ record l.initial.self {
    pending = pending_with (arrivals_below l.k l.bits l.from)
        l.initial.self.pending;
  };
}

abbrev pub decreases-loop-from : goal.decreases-loop-from
decreases-loop-from l = 32 - l.from
