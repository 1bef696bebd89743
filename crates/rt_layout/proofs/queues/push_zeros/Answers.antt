use Rattle.std.proofs.Common.{◌++◌}
use Rattle.std.specs.Prelude.{decimal}
use Rattle.rt_layout.specs.Inside.Rows.{row, zero_rows}
use Rattle.rt_layout.proofs.Rows.{grown, map_more}
use Rattle.rt_layout.proofs.queues.push_zeros.Goals as goal

pub loop-number-preserved : goal.loop-number-preserved
loop-number-preserved c =
    let front = c.args.front.now in
    let n = c.loop-number.number in
    grown c.args.cells.now.items (zero_rows front n) _ c.loop-number.cells.items _ _ c.loop-number.invariant
    c.in_ok-push_numbered.ensures (map_more (λ k. row (front ++ decimal k) 0) n)
