use Rattle.std.proofs.Common.{◌+◌, ◌*◌, length}
use Rattle.rt_judge.specs.Inside.Tables.{empty_rows}
use Rattle.rt_judge.specs.Inside.Visits.{spots_of}
use Rattle.rt_bounds.specs.Inside.Ground.{IsOnTheWay}
use Rattle.rt_bounds.proofs.ground.walk_from.Given as goal

abbrev pub invariant-loop-visit : goal.invariant-loop-visit
invariant-loop-visit l = IsOnTheWay l.image l.owner (spots_of l.fn.starts) l.walk.nestings.opened.items l.walk.table
    l.walk.waiting.items l.walk.behind.items

abbrev pub decreases-loop-visit : goal.decreases-loop-visit
decreases-loop-visit l = 3 * empty_rows l.walk.table.rows.items + length l.walk.waiting.items
