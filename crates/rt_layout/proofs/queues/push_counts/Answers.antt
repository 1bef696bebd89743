use Rattle.std.proofs.Common.{refl}
use Rattle.rt_layout.proofs.Rows.{grown}
use Rattle.rt_layout.proofs.queues.push_counts.Goals as goal

pub returns : goal.returns
returns c =
    let old = c.args.cells.now.items in
    let one = c.push_cell.new.cells.items in
    let two = c.push_cell-2.new.cells.items in
    let both = grown old _ _ one _ two c.in_ok-push_cell.ensures c.in_ok-push_cell-2.ensures refl in
    grown old _ _ two _ _ both c.in_ok-push_cell-3.ensures refl
