use Rattle.rt_bounds.specs.Inside.Ground.{IsMostBefore}
use Rattle.rt_bounds.proofs.ground.most_open.Given as goal

abbrev pub invariant-loop-row : goal.invariant-loop-row
invariant-loop-row l = IsMostBefore l.walk.table.rows.items l.row-index l.most
