use Rattle.rt_live.proofs.Vocabulary.{drop, map, take, with_counts, ◌++◌, ◌≡◌}
use Rattle.rt_live.proofs.gathering.add_counts.Given as goal

abbrev pub invariant-loop-row : goal.invariant-loop-row
invariant-loop-row l =
    l.rows ≡ map (with_counts l.core l.here l.there l.tally) (take l.row-index l.fn.rows) ++ drop l.row-index l.fn.rows
