use Rattle.std.proofs.Common.{arith}
use Rattle.std.proofs.lemmas.Grind.{common_steps}
use Rattle.rt_listing.specs.Short.{IsShortBody}
use Rattle.rt_listing.proofs.Short.{one_more}
use Rattle.rt_listing.proofs.text.push_bodies.Goals as goal

pub loop-row-preserved : goal.loop-row-preserved
loop-row-preserved c = record {
  text = grind (arith, common_steps);
  short = one_more IsShortBody c.args.bodies.now _ c.row-item.result (omega arith) c.row-item.is
      c.loop-row.invariant.short c.push_body.ensures.short;
}
