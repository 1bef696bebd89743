use Rattle.std.proofs.Common.{◌≡◌, drop}
use Rattle.rt_judge.specs.Inside.Greatest.{greater, greatest_frame}
use Rattle.rt_judge.proofs.numbers.greatest_frame.Given as goal

abbrev pub invariant-loop-row : goal.invariant-loop-row
invariant-loop-row l = greater l.greatest (greatest_frame l.value (drop l.row-index l.irqs))
    ≡ greatest_frame l.value l.irqs
