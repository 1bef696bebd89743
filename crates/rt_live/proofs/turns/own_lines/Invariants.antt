use Rattle.rt_live.proofs.Vocabulary.{Goes, flat_map, take, true, ◌≡◌}
use Rattle.rt_live.proofs.Turning.{line_turns}
use Rattle.rt_live.proofs.turns.own_lines.Given as goal

abbrev pub invariant-loop-asked : goal.invariant-loop-asked
invariant-loop-asked g l = record {
  run :
      Goes (g.T.Routes.leads l.role.routes) (flat_map (line_turns l.role.share) (take l.asked-index l.script)) true
      l.fn.line l.line l.fn.core l.core (g.K.Sink.taken l.fn.out) (g.K.Sink.taken l.out);
  quiet : g.K.Sink.faults l.out ≡ g.K.Sink.faults l.fn.out;
}
