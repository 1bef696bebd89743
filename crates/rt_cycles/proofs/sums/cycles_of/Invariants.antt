-- The sum so far, and what it is at most.
use Rattle.std.proofs.Common.{◌≡◌, ◌*◌, ◌≤◌, take}
use Rattle.rt_cycles.specs.Sums.{cycles_of}
use Rattle.rt_cycles.proofs.sums.cycles_of.Given as goal

abbrev pub invariant-loop-instruction : goal.invariant-loop-instruction
invariant-loop-instruction l = record {
  sum : l.sum ≡ cycles_of (take l.instruction-index l.code);
  few : l.sum ≤ 12 * l.instruction-index;
}
