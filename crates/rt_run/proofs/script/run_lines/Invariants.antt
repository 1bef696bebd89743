use Rattle.std.proofs.Common.{◌≡◌, take}
use Rattle.rt_script.specs.Script.{events}
use Rattle.rt_run.specs.Inside.Writing.{Writes}
use Rattle.rt_run.proofs.script.run_lines.Given as goal

abbrev pub invariant-loop-line : goal.invariant-loop-line
invariant-loop-line g l = record {
  run :
      Writes (events (take l.line-index l.lines)) l.fn.core l.core (g.K.Sink.taken l.fn.out) (g.K.Sink.taken l.out)
      l.fn.held l.held;
  quiet : g.K.Sink.faults l.out ≡ g.K.Sink.faults l.fn.out;
}
