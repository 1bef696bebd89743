use Rattle.std.proofs.Common.{◌≡◌, replicate}
use Rattle.rt_ids.specs.Event.{Arrive}
use Rattle.rt_count.specs.declared.summary.Summary.{Summary}
use Rattle.rt_count.specs.Inside.Counting.{Counted}
use Rattle.rt_count.proofs.counting.arrive_on.Given as goal

abbrev pub invariant-loop-done : goal.invariant-loop-done
invariant-loop-done l = record {
  counted : (summary : Summary) → Counted (replicate l._done (Arrive l.irq)) l.fn.core l.core summary summary;
  steps : l.core.steps ≡ l.fn.core.steps;
}
