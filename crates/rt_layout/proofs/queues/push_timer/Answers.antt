use Rattle.std.proofs.Common.{refl}
use Rattle.rt_layout.proofs.Rows.{grown}
use Rattle.rt_layout.proofs.queues.push_timer.Goals as goal

pub returns : goal.returns
returns c =
    let counts = c.push_counts.new.cells.items in
    let instants = c.push_zeros.new.cells.items in
    let armings = c.push_zeros-2.new.cells.items in
    let handles = c.push_zeros-3.new.cells.items in
    let from_handles = grown armings _ _ handles _ _ c.in_ok-push_zeros-3.ensures c.in_ok-push_zeros-4.ensures refl in
    let from_armings = grown instants _ _ armings _ _ c.in_ok-push_zeros-2.ensures from_handles refl in
    let from_instants = grown counts _ _ instants _ _ c.in_ok-push_zeros.ensures from_armings refl in
    grown c.args.cells.now.items _ _ counts _ _ c.in_ok-push_counts.ensures from_instants refl
