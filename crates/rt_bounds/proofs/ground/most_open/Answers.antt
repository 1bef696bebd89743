use Rattle.rt_bounds.proofs.MostOpen.{most_more, most_all, greater_left, greater_right}
use Rattle.rt_bounds.proofs.ground.most_open.Goals as goal

pub loop-row-preserved : goal.loop-row-preserved
loop-row-preserved c =
    let rows = c.args.walk.now.table.rows.items in
    let same = c.deref-row-items.ensures.value in
    let within = c.loop-row-test.true in
    most_more rows c.deref-row-items.result.now c.loop-row.row-index c.loop-row.most c.depth_of.result
    c.max-most.result same within c.depth_of.ensures (greater_left _ _ _ c.max-most.ensures)
    (greater_right _ _ _ c.max-most.ensures) c.loop-row.invariant

pub returns : goal.returns
returns c =
    let same = c.deref-row-items.ensures.value in
    most_all c.args.walk.now.table.rows.items c.deref-row-items.result.now c.loop-row.row-index c.loop-row.most same
    c.loop-row-test.false c.loop-row.invariant
