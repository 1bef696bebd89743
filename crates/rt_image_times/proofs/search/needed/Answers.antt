use Rattle.std.proofs.Common.{◌+◌, ◌*◌, ap, sym, subst, ◌∙◌, arith}
use Rattle.rt_image_times.specs.Response.{plus, held_off, load_needed}
use Rattle.rt_image_times.specs.Inside.Sums.{IsAtMost}
use Rattle.rt_image_times.specs.declared.needed.TheConstants.{MOST_DEMAND}
use Rattle.rt_image_times.proofs.Rising.{plus_nothing, total_more, most_more, has_room}
use Rattle.rt_image_times.proofs.search.needed.Goals as goal

pub loop-load-init : goal.loop-load-init
loop-load-init c = record {
  value = c.held_off-sum.ensures.value ∙ sym (plus_nothing (held_off c.args.longest));
  most = c.held_off-sum.ensures.most;
}

pub plus-sum-requires : goal.plus-sum-requires
plus-sum-requires c =
    has_room ((c.loop-load.load-index + 1) * MOST_DEMAND) MOST_DEMAND c.loop-load.sum c.load_needed.result
    (omega (arith, c.loop-load-test.true, c.requires.few)) c.loop-load.invariant.most c.load_needed.ensures.most

pub loop-load-preserved : goal.loop-load-preserved
loop-load-preserved c = record {
  value = total_more (load_needed c.args.steps) c.loop-load.sum c.plus-sum.result (held_off c.args.longest)
      c.args.loads.now c.loop-load.load-index _ c.loop-load-test.true c.loop-load.invariant.value
      (c.plus-sum.ensures ∙ ap (plus c.loop-load.sum) c.load_needed.ensures.value);
  most = subst (IsAtMost ((c.loop-load.load-index + 1 + 1) * MOST_DEMAND)) (sym c.plus-sum.ensures)
      (most_more ((c.loop-load.load-index + 1) * MOST_DEMAND) MOST_DEMAND
      ((c.loop-load.load-index + 1 + 1) * MOST_DEMAND) c.loop-load.sum c.load_needed.result (omega arith)
      c.loop-load.invariant.most c.load_needed.ensures.most);
}
