use Rattle.std.proofs.Common.{◌+◌, sym, subst}
use Rattle.rt_bounds.specs.Inside.Whole.{IsGatheredBelow, owners_below}
use Rattle.rt_bounds.proofs.Covering.{row_more, row_past, below_earlier}
use Rattle.rt_bounds.proofs.bounding.take_row.Goals as goal

pub returns-in_ok-push-in-Some-clause-gathered : goal.returns-in_ok-push-in-Some-clause-gathered
returns-in_ok-push-in-Some-clause-gathered c =
    let img = c.args.image.now in
    let looked = c.in_ok-longest-in-Some.ensures in
    λ below. subst (IsGatheredBelow img (c.args.index + 1) c.look_at_handler.new.gathered)
    (sym c.in_ok-push-in-Some.ensures.items)
    (row_more img c.args.index c.in-Some.handler c.args.gathered.now c.look_at_handler.new.gathered
    c.args.handlers.now.items c.in_ok-longest-in-Some.longest (sym c.in-Some.ensures) below
    (looked.gathered (owners_below img c.args.index) (below_earlier img c.args.index) below.gathered) looked.bound)

pub returns-in-None-clause-gathered : goal.returns-in-None-clause-gathered
returns-in-None-clause-gathered c =
    row_past c.args.image.now c.args.index c.args.gathered.now c.args.handlers.now.items (sym c.in-None.ensures)
