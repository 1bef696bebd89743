-- The text so far ends with the lines so far.
use Rattle.std.proofs.Common.{◌≡◌, ◌++◌, All, flat_map, take}
use Rattle.rt_listing.specs.Listing.{irq_line}
use Rattle.rt_listing.specs.Short.{IsShortIrq}
use Rattle.rt_listing.proofs.text.push_irqs.Given as goal

abbrev pub invariant-loop-row : goal.invariant-loop-row
invariant-loop-row l = record {
  text : l.out.items ≡ l.fn.out.items ++ flat_map irq_line (take l.row-index l.irqs);
  short : All IsShortIrq (take l.row-index l.irqs);
}
