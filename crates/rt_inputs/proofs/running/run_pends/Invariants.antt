use Rattle.std.proofs.Common.{◌≡◌, replicate}
use Rattle.rt_ids.specs.Event.{Arrive}
use Rattle.rt_run.specs.Inside.Writing.{Writes}
use Rattle.rt_inputs.proofs.running.run_pends.Given as goal

abbrev pub invariant-loop-done : goal.invariant-loop-done
invariant-loop-done g l = record {
  run :
      Writes (replicate l._done (Arrive l.irq)) l.fn.core l.core (g.K.Sink.taken l.fn.out) (g.K.Sink.taken l.out)
      l.fn.held.items l.held.items;
  quiet : g.K.Sink.faults l.out ≡ g.K.Sink.faults l.fn.out;
}
