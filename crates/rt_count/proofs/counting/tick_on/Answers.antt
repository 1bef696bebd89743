use Rattle.std.proofs.Common.{◌≡◌, [], replicate, refl, ap, subst, ◌∙◌, arith}
use Rattle.rt_ids.specs.Event.{Tick}
use Rattle.rt_core.specs.Machine.{Machine}
use Rattle.rt_run.proofs.Known.{early_after}
use Rattle.rt_run.proofs.Happened.{tick_leads}
use Rattle.rt_count.specs.Summary.{summary_of}
use Rattle.rt_count.specs.Inside.Counting.{Counted}
use Rattle.rt_count.proofs.Following.{nothing_yet, more, tick_uncounted}
use Rattle.rt_count.proofs.counting.tick_on.Goals as goal

pub loop-done-init : goal.loop-done-init
loop-done-init c = record { counted = λ summary. nothing_yet c.args.core.now summary; steps = refl }

pub tick-requires : goal.tick-requires
tick-requires c =
    early_after c.loop-done._done c.args.count Tick c.args.core.now c.loop-done.core
    (c.loop-done.invariant.counted (summary_of 0 [])).leads
    (omega arith) c.requires.early

pub loop-done-preserved : goal.loop-done-preserved
loop-done-preserved c = record {
  counted = λ summary.
      more c.loop-done._done Tick c.args.core.now c.loop-done.core c.tick.new.self summary summary summary
      (c.loop-done.invariant.counted summary)
      (tick_uncounted c.loop-done.core c.tick.new.self summary c.tick.result
      (tick_leads c.loop-done.core c.tick.new.self c.tick.ensures.state)
      c.tick.ensures.shown);
  steps = ap (λ (m : Machine). m.steps) c.tick.ensures.state ∙ c.loop-done.invariant.steps;
}

pub returns-clause-counted : goal.returns-clause-counted
returns-clause-counted c = λ summary.
    let all : c.loop-done._done ≡ c.args.count = omega arith in
    subst (λ n. Counted (replicate n Tick) c.args.core.now c.loop-done.core summary summary) all
    (c.loop-done.invariant.counted summary)
