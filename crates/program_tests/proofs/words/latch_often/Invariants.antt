use Rattle.std.proofs.Common.{◌≡◌, ◌+◌, length}
use Rattle.program_tests.proofs.words.latch_often.Given as goal

-- so many calls more, and else the same line
abbrev pub invariant-loop : goal.invariant-loop
invariant-loop l = record {
  same : l.line ≡ record l.initial.line { calls = l.line.calls };
  longer : length l.line.calls ≡ length l.initial.line.calls + l.counter;
}
