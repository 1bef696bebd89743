use Rattle.rt_live.proofs.Vocabulary.{Arrive, Sends, arrivals_below, map, ◌≡◌}
use Rattle.rt_live.proofs.turns.arrive_word.Given as goal

abbrev pub invariant-loop-bit : goal.invariant-loop-bit
invariant-loop-bit g l = record {
  run :
      Sends (map Arrive (arrivals_below l.word l.found l.bit)) l.fn.core l.core (g.K.Sink.taken l.fn.out)
      (g.K.Sink.taken l.out);
  quiet : g.K.Sink.faults l.out ≡ g.K.Sink.faults l.fn.out;
}
