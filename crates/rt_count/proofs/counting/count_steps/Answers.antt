use Rattle.std.proofs.Common.{◌≡◌, ◌-◌, replicate, subst, arith}
use Rattle.rt_ids.specs.Event.{Step}
use Rattle.rt_run.proofs.Known.{room_for_left}
use Rattle.rt_count.specs.Inside.Counting.{Counted}
use Rattle.rt_count.proofs.Following.{nothing_yet, some_more}
use Rattle.rt_count.proofs.counting.count_steps.Goals as goal

pub loop-left-init : goal.loop-left-init
loop-left-init c =
    let none : 0 ≡ c.args.count - c.args.count = omega arith in
    record {
      counted =
          subst (λ n. Counted (replicate n Step) c.args.core.now c.args.core.now c.args.summary.now c.args.summary.now)
          none
          (nothing_yet c.args.core.now c.args.summary.now);
      fewer = omega arith;
      within = c.requires.within;
    }

pub count_to_item-left-requires-clause-few : goal.count_to_item-left-requires-clause-few
count_to_item-left-requires-clause-few c =
    room_for_left c.args.count c.loop-left.left Step c.args.core.now c.loop-left.core
    c.loop-left.invariant.counted.leads
    c.loop-left.invariant.fewer c.requires.few

pub loop-left-preserved : goal.loop-left-preserved
loop-left-preserved c = record {
  counted =
      some_more c.args.count c.loop-left.left c.count_to_item-left.result Step c.args.core.now c.loop-left.core
      c.count_to_item-left.new.core
      c.args.summary.now c.loop-left.summary c.count_to_item-left.new.summary c.loop-left.invariant.fewer
      (omega (arith, c.count_to_item-left.ensures.fewer)) c.loop-left.invariant.counted
      c.count_to_item-left.ensures.counted;
  fewer = omega (arith, c.count_to_item-left.ensures.fewer, c.loop-left.invariant.fewer);
  within = c.count_to_item-left.ensures.within;
}
