use Rattle.std.proofs.Common.{◌≡◌}
use Rattle.rt_app.specs.View.{app_of}
use Rattle.rt_given.specs.Words.{given_words}
use Rattle.rt_given.proofs.Sources.{source_after}
use Rattle.rt_inputs.specs.Script.{given_requests}
use Rattle.rt_inputs.specs.Inside.Ran.{Ran, moment}
use Rattle.rt_inputs.proofs.running.run_words.Given as goal

abbrev pub invariant-loop-done : goal.invariant-loop-done
invariant-loop-done g l = record {
  run :
      Ran (app_of l.app) l.board (given_requests l.irq l.local (given_words l._done l.fn.source))
      (moment l.fn.core l.fn.registers) (moment l.core l.registers) (g.K.Sink.taken l.fn.out) (g.K.Sink.taken l.out)
      l.fn.held.items l.held.items;
  source : l.source ≡ source_after l._done l.fn.source;
  quiet : g.K.Sink.faults l.out ≡ g.K.Sink.faults l.fn.out;
}
