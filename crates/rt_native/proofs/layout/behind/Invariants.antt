-- The place so far, with the instructions that are left.
use Rattle.std.proofs.Common.{◌≡◌, ◌+◌, ◌≤◌, drop}
use Rattle.rt_native.specs.Pieces.{bytes_of}
use Rattle.rt_native.proofs.layout.behind.Given as goal

abbrev pub invariant-loop-instruction : goal.invariant-loop-instruction
invariant-loop-instruction l = record {
  place : l.place + bytes_of (drop l.instruction-index l.instructions) ≡ l.fn.place + bytes_of l.instructions;
  within : l.place ≤ l.end;
}
