use Rattle.rt_live.proofs.Vocabulary.{Goes, event_of, event_turns, flat_map, replicate, take, true, ◌≡◌}
use Rattle.rt_live.proofs.turns.repeat.Given as goal

abbrev pub invariant-loop-done : goal.invariant-loop-done
invariant-loop-done g l = record {
  run :
      Goes (g.T.Routes.leads l.role.routes) (flat_map event_turns (take l._done (replicate l.times (event_of l.asked))))
      true l.fn.line l.line l.fn.core l.core (g.K.Sink.taken l.fn.out) (g.K.Sink.taken l.out);
  quiet : g.K.Sink.faults l.out ≡ g.K.Sink.faults l.fn.out;
}
