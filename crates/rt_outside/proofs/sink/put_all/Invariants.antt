use Rattle.std.proofs.Common.{◌≡◌, ◌≤◌, length, take}
use Rattle.rt_outside.specs.Bytes.{Took}
use Rattle.rt_outside.proofs.sink.put_all.Given as goal

abbrev pub invariant-loop-turn : goal.invariant-loop-turn
invariant-loop-turn g l = record {
  paced : l._turn ≤ l.done;
  within : l.done ≤ length l.bytes;
  took : Took (g.K.Sink.taken l.initial.sink) (g.K.Sink.taken l.sink) (take l.done l.bytes);
  quiet : g.K.Sink.faults l.sink ≡ g.K.Sink.faults l.initial.sink;
}
