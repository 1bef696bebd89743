use Rattle.std.proofs.Common.{◌≡◌, ◌+◌, length}
use Rattle.program_tests.proofs.values.take_often.Given as goal

-- so many calls more, and else the same side
abbrev pub invariant-loop : goal.invariant-loop
invariant-loop l = record {
  same : l.taker ≡ record l.initial.taker { calls = l.taker.calls; last = l.taker.last };
  longer : length l.taker.calls ≡ length l.initial.taker.calls + l.counter;
}
