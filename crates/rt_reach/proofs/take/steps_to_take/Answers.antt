use Rattle.std.specs.Prelude.{IsTrue}
use Rattle.std.proofs.Common.{subst, sym, refl, arith}
use Rattle.rt_lemmas.proofs.Bools.{true_and_false}
use Rattle.rt_reach.specs.Deepest.{item_after}
use Rattle.rt_reach.specs.Take.{IsTake}
use Rattle.rt_reach.specs.declared.take.TheConstants.{MOST_STEPS}
use Rattle.rt_reach.proofs.Takes.{shows, few_done, leads_more, comes_by}
use borrow.Author.Count.{below_more}
use Rattle.rt_reach.proofs.take.steps_to_take.Goals as goal

pub loop-done-init : goal.loop-done-init
loop-done-init c = record { run = c.request.ensures; none = λ k below. absurd (omega (arith, below)) }

pub step-shown-requires : goal.step-shown-requires
step-shown-requires c =
    let done = few_done c.args.core.now _ c.args.irq c.loop-done.done c.requires.fresh c.loop-done.invariant.run in
    omega (arith, done)

pub returns-then-is_take-clause-first : goal.returns-then-is_take-clause-first
returns-then-is_take-clause-first c =
    let is = shows c.args.core.now c.loop-done.core c.args.irq c.loop-done.done c.step-shown.result c.requires.fresh
    c.loop-done.invariant.run c.step-shown.ensures.item in
    let takes : IsTake c.step-shown.result = c.is_take.ensures.0 (subst IsTrue (sym c.if-is_take.true) refl) in
    record {
      done = c.loop-done.done;
      number = omega arith;
      takes = subst IsTake is takes;
      none = c.loop-done.invariant.none;
    }

pub returns-then-is_take-clause-image : goal.returns-then-is_take-clause-image
returns-then-is_take-clause-image c =
    (leads_more c.args.core.now c.loop-done.core c.step-shown.new.self c.args.irq c.loop-done.done
    c.loop-done.invariant.run c.step-shown.ensures.state).image

pub loop-done-preserved : goal.loop-done-preserved
loop-done-preserved c =
    let is = shows c.args.core.now c.loop-done.core c.args.irq c.loop-done.done c.step-shown.result c.requires.fresh
    c.loop-done.invariant.run c.step-shown.ensures.item in
    let not_now : ¬ IsTake c.step-shown.result =
    λ takes. true_and_false c.is_take.result (c.is_take.ensures.1 takes) c.if-is_take.false in
    record {
      run = leads_more c.args.core.now c.loop-done.core c.step-shown.new.self c.args.irq c.loop-done.done
          c.loop-done.invariant.run c.step-shown.ensures.state;
      none = below_more (λ k. ¬ IsTake (item_after c.args.core.now.image c.args.irq k)) c.loop-done.done
          c.loop-done.invariant.none (λ takes. not_now (subst IsTake (sym is) takes));
    }

pub unreachable-requires : goal.unreachable-requires
unreachable-requires c =
    comes_by MOST_STEPS c.args.core.now.image c.args.irq c.requires.soon
    (λ k below. c.loop-done.invariant.none k (omega arith))
