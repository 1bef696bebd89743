-- The greatest so far, with those of the instructions that are left.
use Rattle.std.proofs.Common.{◌≡◌, ◌<◌, ◌^◌, max, drop}
use Rattle.rt_ids.specs.Lists.{greatest}
use Rattle.rt_cycles.specs.Sums.{code_cycles, step_cycles}
use Rattle.rt_cycles.proofs.sums.step_cycles.Given as goal

abbrev pub invariant-loop-address : goal.invariant-loop-address
invariant-loop-address l = record {
  sum : max l.most (greatest (code_cycles l.image l.address (drop l.address l.image.code))) ≡ step_cycles l.image;
  few : l.most < 2 ^ 69;
}
