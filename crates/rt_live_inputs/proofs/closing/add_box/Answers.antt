use Rattle.std.proofs.Common.{ap, arith, sym, ◌∙◌, slice_set}
use Rattle.std.proofs.lemmas.List.Edits.{map_over_more}
use Rattle.rt_live.proofs.Tallied.{next_fits}
use Rattle.rt_live_inputs.specs.Inside.Making.{with_left}
use Rattle.rt_live_inputs.proofs.closing.add_box.Goals as goal

pub add_to_row-requires : goal.add_to_row-requires
add_to_row-requires c =
    next_fits (with_left c.args.kind.now c.args.left.now) c.loop-row.rows c.args.rows.now c.loop-row.row-index
    c.row-item.result (omega arith) c.loop-row.invariant c.requires

pub loop-row-preserved : goal.loop-row-preserved
loop-row-preserved c =
    let change = with_left c.args.kind.now c.args.left.now in
    let rows = c.loop-row.rows in
    let i = c.loop-row.row-index in
    let row = c.row-item.result in
    ap (slice_set rows i) (c.add_to_row.ensures ∙ ap change (sym c.row-item.is))
    ∙ map_over_more change c.args.rows.now rows i row (omega arith) c.loop-row.invariant c.row-item.is
