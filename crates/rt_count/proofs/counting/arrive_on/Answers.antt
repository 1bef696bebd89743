use Rattle.std.proofs.Common.{◌≡◌, replicate, refl, subst, arith}
use Rattle.rt_ids.specs.Event.{Arrive}
use Rattle.rt_count.specs.Inside.Counting.{Counted}
use Rattle.rt_count.proofs.Following.{nothing_yet, more, pend_uncounted}
use Rattle.rt_count.proofs.counting.arrive_on.Goals as goal

pub loop-done-init : goal.loop-done-init
loop-done-init c = record { counted = λ summary. nothing_yet c.args.core.now summary; steps = refl }

pub loop-done-preserved : goal.loop-done-preserved
loop-done-preserved c = record {
  counted = λ summary.
      more c.loop-done._done (Arrive c.args.irq) c.args.core.now c.loop-done.core c.arrive.new.core summary summary
      summary
      (c.loop-done.invariant.counted summary) (pend_uncounted c.loop-done.core c.arrive.new.core summary c.args.irq
      c.arrive.ensures);
  steps = omega (arith, c.arrive.ensures.steps, c.loop-done.invariant.steps);
}

pub returns-clause-counted : goal.returns-clause-counted
returns-clause-counted c = λ summary.
    let all : c.loop-done._done ≡ c.args.count = omega arith in
    subst (λ n. Counted (replicate n (Arrive c.args.irq)) c.args.core.now c.loop-done.core summary summary) all
    (c.loop-done.invariant.counted summary)
