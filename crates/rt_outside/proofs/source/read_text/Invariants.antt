use Rattle.std.proofs.Common.{◌≡◌, ◌+◌, ◌≤◌, min, vec_len}
use Rattle.rt_outside.specs.Bytes.{given_since, HasGiven}
use Rattle.rt_outside.proofs.source.read_text.Given as goal

abbrev pub invariant-loop-turn : goal.invariant-loop-turn
invariant-loop-turn g l = record {
  paced : l._turn ≤ vec_len l.text;
  within : vec_len l.text ≤ l.limit;
  buffer : vec_len l.piece ≡ min 4096 (l.limit + 1);
  given : HasGiven g.S.Source.past g.S.Source.left l.initial.source l.source;
  text : l.text.items ≡ given_since (g.S.Source.past l.initial.source) (g.S.Source.past l.source);
  quiet : g.S.Source.faults l.source ≡ g.S.Source.faults l.initial.source;
}
