use Rattle.std.proofs.Common.{◌≡◌, false, take}
use Rattle.rt_judge.specs.Inside.Entering.{has_row}
use Rattle.rt_judge.proofs.entering.find_row.Given as goal

abbrev pub invariant-loop-index : goal.invariant-loop-index
invariant-loop-index l = has_row (take l.index l.rows) l.section ≡ false
