use Rattle.std.proofs.Common.{arith}
use Rattle.std.proofs.lemmas.Grind.{common_steps}
use Rattle.rt_listing.specs.Short.{IsShortIrq}
use Rattle.rt_listing.proofs.Short.{one_more}
use Rattle.rt_listing.proofs.text.push_irqs.Goals as goal

pub loop-row-preserved : goal.loop-row-preserved
loop-row-preserved c = record {
  text = grind (arith, common_steps);
  short = one_more IsShortIrq c.args.irqs.now _ c.row-item.result (omega arith) c.row-item.is c.loop-row.invariant.short
      c.in_ok-push_irq.ensures.short;
}
