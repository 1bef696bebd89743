-- So many core steps are done, and none of them was an exception entry.
use Rattle.std.proofs.Common.{ℕ, ◌<◌, ◌∷◌, replicate}
use Rattle.rt_ids.specs.Event.{Arrive, Step}
use Rattle.rt_run.specs.Done.{Leads}
use Rattle.rt_reach.specs.Deepest.{item_after}
use Rattle.rt_reach.specs.Take.{IsTake}
use Rattle.rt_reach.proofs.take.steps_to_take.Given as goal

abbrev pub invariant-loop-done : goal.invariant-loop-done
invariant-loop-done l = record {
  run : Leads (Arrive l.fn.irq ∷ replicate l.done Step) l.fn.core l.core;
  none : (k : ℕ) → k < l.done → ¬ IsTake (item_after l.fn.core.image l.fn.irq k);
}
