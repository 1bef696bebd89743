use Rattle.std.proofs.Common.{◌≡◌, replicate, None}
use Rattle.rt_judge.proofs.touching.Cells.new.Given as goal

abbrev pub invariant-loop : goal.invariant-loop
invariant-loop l = l.rows.items ≡ replicate l.counter None
