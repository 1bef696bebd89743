use Rattle.std.proofs.Common.{◌≡◌, replicate, refl, arith, subst, ◌∙◌}
use Rattle.rt_lemmas.proofs.Results.{on_err_from}
use Rattle.rt_ids.specs.Event.{Tick}
use Rattle.rt_run.specs.Inside.Writing.{Writes}
use Rattle.rt_run.proofs.Known.{still_writable, few_after, early_after}
use Rattle.rt_run.proofs.Advancing.{nothing_yet, more, more_cut}
use Rattle.rt_inputs.proofs.running.run_ticks.Goals as goal

pub loop-done-init : goal.loop-done-init
loop-done-init g c = record {
  run = nothing_yet c.args.core.now _ c.args.held.now.items;
  quiet = refl;
}

pub run_tick-requires-clause-writable : goal.run_tick-requires-clause-writable
run_tick-requires-clause-writable g c =
    still_writable (replicate c.loop-done._done Tick) c.args.core.now _ c.loop-done.invariant.run.leads
    c.requires.writable

pub run_tick-requires-clause-few : goal.run_tick-requires-clause-few
run_tick-requires-clause-few g c =
    few_after c.loop-done._done c.args.count Tick c.args.core.now _ c.loop-done.invariant.run.leads (omega arith)
    c.requires.few

pub run_tick-requires-clause-early : goal.run_tick-requires-clause-early
run_tick-requires-clause-early g c =
    early_after c.loop-done._done c.args.count Tick c.args.core.now _ c.loop-done.invariant.run.leads (omega arith)
    c.requires.early

pub returns-in_err-run_tick-clause-err : goal.returns-in_err-run_tick-clause-err
returns-in_err-run_tick-clause-err g c =
    on_err_from c.from_residual.result
    (more_cut c.loop-done._done c.args.count Tick c.args.core.now _ c.run_tick.new.core _ _ _ c.args.held.now.items _
    (omega arith) c.loop-done.invariant.run c.in_err-run_tick.ensures.err)

pub loop-done-preserved : goal.loop-done-preserved
loop-done-preserved g c = record {
  run =
      more c.loop-done._done Tick c.args.core.now _ c.run_tick.new.core _ _ _ c.args.held.now.items _
      c.run_tick.new.held.items c.loop-done.invariant.run c.in_ok-run_tick.ensures.ok;
  quiet = c.in_ok-run_tick.ensures.quiet ∙ c.loop-done.invariant.quiet;
}

pub returns-clause-ok : goal.returns-clause-ok
returns-clause-ok g c =
    let all : c.loop-done._done ≡ c.args.count = omega arith in
    subst (λ n. Writes (replicate n Tick) c.args.core.now c.loop-done.core
    (g.K.Sink.taken c.args.out.now) (g.K.Sink.taken c.loop-done.out) c.args.held.now.items c.loop-done.held.items)
    all c.loop-done.invariant.run
