use Rattle.rt_live.proofs.Vocabulary.{ap, arith, sym, with_counts, ◌∙◌}
use Rattle.std.proofs.{Common.slice_set, lemmas.List.Edits.map_over_more}
use Rattle.rt_live.proofs.Tallied.{next_fits}
use Rattle.rt_live.proofs.gathering.add_counts.Goals as goal

pub add_row-requires : goal.add_row-requires
add_row-requires c = record {
  room =
      next_fits (with_counts c.args.core c.args.here c.args.there c.args.tally.now) c.loop-row.rows c.args.rows.now
      c.loop-row.row-index c.row-item.result (omega arith) c.loop-row.invariant c.requires.room;
}

pub loop-row-preserved : goal.loop-row-preserved
loop-row-preserved c =
    let change = with_counts c.args.core c.args.here c.args.there c.args.tally.now in
    let rows = c.loop-row.rows in
    let i = c.loop-row.row-index in
    let row = c.row-item.result in
    ap (slice_set rows i) (c.add_row.ensures ∙ ap change (sym c.row-item.is))
    ∙ map_over_more change c.args.rows.now rows i row (omega arith) c.loop-row.invariant c.row-item.is
