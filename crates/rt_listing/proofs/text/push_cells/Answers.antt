use Rattle.std.proofs.Common.{arith}
use Rattle.std.proofs.lemmas.List.{take_all}
use Rattle.std.proofs.lemmas.Grind.{common_steps}
use Rattle.rt_listing.specs.Short.{IsShortCell, IsWordCell}
use Rattle.rt_listing.proofs.Short.{one_more}
use Rattle.rt_listing.proofs.text.push_cells.Goals as goal

pub loop-number-preserved : goal.loop-number-preserved
loop-number-preserved c = record {
  text = grind (arith, common_steps);
  short = one_more IsShortCell c.args.cells.now _ c.index-cells-number.result (omega arith) c.index-cells-number.is
      c.loop-number.invariant.short c.in_ok-push_cell.ensures.short;
  words = one_more IsWordCell c.args.cells.now _ c.index-cells-number.result (omega arith) c.index-cells-number.is
      c.loop-number.invariant.words c.in_ok-push_cell.ensures.word;
}

pub returns-clause-short : goal.returns-clause-short
returns-clause-short c = rw (take_all c.loop-number.number c.args.cells.now (omega arith)) at
    c.loop-number.invariant.short

pub returns-clause-words : goal.returns-clause-words
returns-clause-words c = rw (take_all c.loop-number.number c.args.cells.now (omega arith)) at
    c.loop-number.invariant.words
