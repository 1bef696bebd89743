use Rattle.std.proofs.Common.{slice_set, ap, sym, ◌∙◌, arith}
use Rattle.std.proofs.lemmas.List.Edits.{map_over_more}
use Rattle.rt_bounds.specs.Inside.Gathered.{held}
use Rattle.rt_bounds.proofs.NextRows.{next_priority}
use Rattle.rt_bounds.proofs.gathered.hold_all.Goals as goal

pub hold-requires-clause-priority : goal.hold-requires-clause-priority
hold-requires-clause-priority c =
    next_priority c.args.bits (held c.args.bits c.args.entry.now c.args.longest) c.loop-row.rows c.args.rows.now
    c.loop-row.row-index c.row-item.result (omega arith) c.loop-row.invariant c.requires.priorities

pub loop-row-preserved : goal.loop-row-preserved
loop-row-preserved c =
    let change = held c.args.bits c.args.entry.now c.args.longest in
    let rows = c.loop-row.rows in
    let i = c.loop-row.row-index in
    let row = c.row-item.result in
    ap (slice_set rows i) (c.hold.ensures ∙ ap change (sym c.row-item.is))
    ∙ map_over_more change c.args.rows.now rows i row (omega arith) c.loop-row.invariant c.row-item.is
