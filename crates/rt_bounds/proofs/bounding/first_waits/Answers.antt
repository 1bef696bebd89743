use Rattle.std.proofs.Common.{sym, subst}
use Rattle.rt_bounds.specs.Inside.Whole.{AreFirstTo}
use Rattle.rt_bounds.proofs.Covering.{first_none}
use Rattle.rt_bounds.proofs.bounding.first_waits.Goals as goal

pub loop-number-init : goal.loop-number-init
loop-number-init c =
    subst (AreFirstTo c.args.image.now 1) (sym c.new-waits.ensures.items) (first_none c.args.image.now)
