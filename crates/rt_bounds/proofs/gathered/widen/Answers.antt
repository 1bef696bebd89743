use Rattle.std.proofs.Common.{slice_set, ap, sym, ◌∙◌, arith}
use Rattle.std.proofs.lemmas.List.Edits.{map_over_more}
use Rattle.rt_bounds.specs.Inside.Gathered.{widened}
use Rattle.rt_bounds.proofs.gathered.widen.Goals as goal

pub loop-row-preserved : goal.loop-row-preserved
loop-row-preserved c =
    let change = widened c.args.section.now c.args.longest in
    let rows = c.loop-row.rows in
    let i = c.loop-row.row-index in
    let row = c.row-item.result in
    ap (slice_set rows i) (c.widen_row.ensures ∙ ap change (sym c.row-item.is))
    ∙ map_over_more change c.args.rows.now rows i row (omega arith) c.loop-row.invariant c.row-item.is
