use Rattle.std.proofs.Common.{◌≡◌, ◌+◌, ◌≤◌, length, min, vec_len}
use Rattle.rt_outside.specs.Bytes.{given_since, HasGiven}
use Rattle.rt_outside.specs.Inside.Handed.{HoldsLast}
use Rattle.rt_outside.proofs.lines.read_lines.Given as goal

-- of the text that was given so far, the lines that ended are out
abbrev pub invariant-loop-turn : goal.invariant-loop-turn
invariant-loop-turn g l = record {
  paced : l._turn ≤ l.taken;
  within : l.taken ≤ l.limit;
  buffer : vec_len l.piece ≡ min 4096 (l.limit + 1);
  few : l.count + length l.held.items ≤ l.taken;
  given : HasGiven g.S.Source.past g.S.Source.left l.initial.source l.source;
  long : length (given_since (g.S.Source.past l.initial.source) (g.S.Source.past l.source)) ≡ l.taken;
  holds : HoldsLast (g.L.LineSink.came l.sink)
      (given_since (g.S.Source.past l.initial.source) (g.S.Source.past l.source)) l.held.items l.count;
  quiet : g.S.Source.faults l.source ≡ g.S.Source.faults l.initial.source;
}
