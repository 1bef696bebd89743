use Rattle.rt_ceil.proofs.Appended.{ready_rows_none, ready_rows_served, ready_rows_other}
use Rattle.rt_ceil.proofs.rows.ready_rows.Goals as goal
use Rattle.rt_ceil.proofs.rows.ready_rows.Goals.{then-served-level+in_ok-push, else-served-level}

pub loop-level-init : goal.loop-level-init
loop-level-init c = let e = ready_rows_none c.args.served.now c.args.table.now in cc

pub loop-level-preserved : goal.loop-level-preserved
loop-level-preserved c =
    elim c.if-served-level.branch [
      | then-served-level+in_ok-push w ↦ let e = ready_rows_served c.args.served.now c.args.table.now c.loop-level.level
          w.if-served-level.true in cc (e, w.in_ok-push.ensures.items)
      | else-served-level w ↦ let e = ready_rows_other c.args.served.now c.args.table.now c.loop-level.level
          w.if-served-level.false in cc
    ]
