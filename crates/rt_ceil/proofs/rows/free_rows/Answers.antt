use Rattle.rt_ceil.proofs.Appended.{free_rows_more}
use Rattle.rt_ceil.proofs.rows.free_rows.Goals as goal

pub loop-number-preserved : goal.loop-number-preserved
loop-number-preserved c =
    let e = free_rows_more c.args.table.now c.args.tasks.now c.loop-number.number c.index-tasks-number.result
    c.loop-number-test.true in cc (e, c.in_ok-push.ensures.items, c.index-tasks-number.is)
