use Rattle.std.proofs.Common.{◌≡◌, ◌+◌, length}
use Rattle.program_tests.proofs.values.give_often.Given as goal

-- so many calls more, and else the same side
abbrev pub invariant-loop : goal.invariant-loop
invariant-loop l = record {
  same : l.giver ≡ record l.initial.giver { calls = l.giver.calls };
  longer : length l.giver.calls ≡ length l.initial.giver.calls + l.counter;
}
