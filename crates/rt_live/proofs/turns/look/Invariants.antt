use Rattle.rt_live.proofs.Vocabulary.{◌≡◌}
use Rattle.rt_live.proofs.Looking.{Looked}
use Rattle.rt_live.proofs.turns.look.Given as goal

abbrev pub invariant-loop-k : goal.invariant-loop-k
invariant-loop-k g l = record {
  run : Looked l.k l.fn.line l.line l.fn.core l.core (g.K.Sink.taken l.fn.out) (g.K.Sink.taken l.out);
  quiet : g.K.Sink.faults l.out ≡ g.K.Sink.faults l.fn.out;
}
