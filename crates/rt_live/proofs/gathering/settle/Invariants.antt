use Rattle.rt_live.proofs.Vocabulary.{drop, map, settled_row, take, ◌++◌, ◌≡◌}
use Rattle.rt_live.proofs.gathering.settle.Given as goal

abbrev pub invariant-loop-row : goal.invariant-loop-row
invariant-loop-row l =
    l.rows ≡ map (settled_row l.core l.bits) (take l.row-index l.fn.rows) ++ drop l.row-index l.fn.rows
