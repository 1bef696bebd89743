use Rattle.std.proofs.Common.{◌≡◌, ◌≤◌, List, length, ap, sym, subst, ◌∙◌, rules, arith}
use Rattle.rt_ids.specs.Lists.{those_below}
use Rattle.rt_code.specs.Image.{Image}
use Rattle.rt_bounds.specs.Bounds.{is_enabled}
use Rattle.rt_bounds.specs.Inside.Whole.{IsGatheredBelow}
use Rattle.rt_bounds.specs.declared.bound.HandlerBound.{HandlerBound}
use Rattle.rt_bounds.specs.declared.gathered.Gathered.{Gathered}
use Rattle.rt_bounds.proofs.Covering.{below_none, first_priorities, gathered_first, sections_whole, waits_whole}
use Rattle.rt_bounds.proofs.Taking.{priorities_stay}
use Rattle.rt_bounds.proofs.bounding.bounds.Goals as goal

pub look_at_thread-requires-clause-priorities : goal.look_at_thread-requires-clause-priorities
look_at_thread-requires-clause-priorities c =
    first_priorities c.args.image.now c.in_ok-waits.waits.items c.in_ok-waits.ensures

pub loop-index-init : goal.loop-index-init
loop-index-init c =
    let img = c.args.image.now in
    let first : Gathered =
    record { own = c.new-own.result; sections = c.new-sections.result; waits = c.in_ok-waits.waits } in
    let next = c.look_at_thread.new.gathered in
    let looked = c.in_ok-init.ensures in
    record {
      below = subst (λ (hs : List HandlerBound). IsGatheredBelow img 0 next hs) (sym c.new-handlers.ensures.items)
          (below_none img next (looked.gathered (gathered_first img first c.new-own.ensures.items
          c.new-sections.ensures.items c.in_ok-waits.ensures)));
      used = looked.priorities ∙ c.in_ok-waits.ensures.used;
      priorities = priorities_stay img.bits c.in_ok-waits.waits.items next.waits.items looked.priorities
          (first_priorities img c.in_ok-waits.waits.items c.in_ok-waits.ensures);
    }

pub loop-index-preserved : goal.loop-index-preserved
loop-index-preserved c =
    let before = c.loop-index.invariant in
    let taken = c.in_ok-take_row.ensures in
    record {
      below = taken.gathered before.below;
      used = taken.priorities ∙ before.used;
      priorities = priorities_stay c.args.image.now.bits c.loop-index.gathered.waits.items
          c.take_row.new.gathered.waits.items taken.priorities before.priorities;
    }

pub returns : goal.returns
returns c =
    let img = c.args.image.now in
    let long : c.len-index-end.result ≡ length c.image.inside.irqs.items = search rules in
    let view = ap (λ (i : Image). length i.irqs) c.image.view_is in
    let last : c.loop-index.index ≡ length img.irqs = omega (arith, long, view) in
    let past : length img.irqs ≤ c.loop-index.index = omega (arith, last) in
    let at_end = c.loop-index.invariant in
    record {
      init = c.in_ok-init.ensures.bound;
      handlers = record {
        each = at_end.below.each;
        enabled = at_end.below.enabled ∙ ap (those_below (is_enabled img)) last;
      };
      sections = sections_whole img c.loop-index.index c.loop-index.gathered past at_end.below.gathered;
      waits = waits_whole img c.loop-index.index c.loop-index.gathered past at_end.below.gathered at_end.used;
      stack = c.stack_need.ensures;
    }
