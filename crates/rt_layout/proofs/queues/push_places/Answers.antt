use Rattle.std.proofs.Common.{◌++◌}
use Rattle.std.specs.Prelude.{decimal}
use Rattle.rt_layout.specs.Inside.Rows.{row, place_rows}
use Rattle.rt_layout.proofs.Rows.{grown, map_more}
use Rattle.rt_layout.proofs.queues.push_places.Goals as goal

pub loop-place-preserved : goal.loop-place-preserved
loop-place-preserved c =
    let front = c.args.front.now in
    let n = c.loop-place.place in
    grown c.args.cells.now.items (place_rows front n) _ c.loop-place.cells.items _ _ c.loop-place.invariant
    c.in_ok-push_numbered.ensures (map_more (λ k. row (front ++ decimal k) k) n)
