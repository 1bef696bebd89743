use Rattle.std.proofs.Common.{◌≡◌, true, take}
use Rattle.std.specs.List.{list_all}
use Rattle.rt_judge.specs.Inside.Entering.{holds_off}
use Rattle.rt_why.proofs.ceilings.weak_row.Given as goal

abbrev pub invariant-loop-row : goal.invariant-loop-row
invariant-loop-row l = list_all holds_off (take l.row-index l.rows) ≡ true
