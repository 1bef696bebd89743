use Rattle.std.proofs.Common.{◌≡◌, replicate, refl, arith, subst, sym, ◌∙◌}
use Rattle.rt_lemmas.proofs.Results.{on_err_from}
use Rattle.rt_ids.specs.Event.{Arrive}
use Rattle.rt_ids.specs.Naming.{IsDeclared}
use Rattle.rt_code.specs.Image.{Image}
use Rattle.rt_run.specs.Inside.Writing.{Writes}
use Rattle.rt_run.proofs.Known.{still_writable, few_after}
use Rattle.rt_run.proofs.Advancing.{nothing_yet, more, more_cut}
use Rattle.rt_inputs.proofs.running.run_pends.Goals as goal

pub loop-done-init : goal.loop-done-init
loop-done-init g c = record {
  run = nothing_yet c.args.core.now _ c.args.held.now.items;
  quiet = refl;
}

pub run_pend-requires-clause-writable : goal.run_pend-requires-clause-writable
run_pend-requires-clause-writable g c =
    still_writable (replicate c.loop-done._done (Arrive c.args.irq)) c.args.core.now _ c.loop-done.invariant.run.leads
    c.requires.writable

pub run_pend-requires-clause-few : goal.run_pend-requires-clause-few
run_pend-requires-clause-few g c =
    few_after c.loop-done._done c.args.count (Arrive c.args.irq) c.args.core.now _ c.loop-done.invariant.run.leads
    (omega arith) c.requires.few

pub run_pend-requires-clause-declared : goal.run_pend-requires-clause-declared
run_pend-requires-clause-declared g c =
    subst (λ (img : Image). IsDeclared img.names c.args.irq) (sym c.loop-done.invariant.run.leads.image)
    c.requires.declared

pub returns-in_err-run_pend-clause-err : goal.returns-in_err-run_pend-clause-err
returns-in_err-run_pend-clause-err g c =
    on_err_from c.from_residual.result
    (more_cut c.loop-done._done c.args.count (Arrive c.args.irq) c.args.core.now _ c.run_pend.new.core _ _ _
    c.args.held.now.items _ (omega arith) c.loop-done.invariant.run c.in_err-run_pend.ensures.err)

pub loop-done-preserved : goal.loop-done-preserved
loop-done-preserved g c = record {
  run =
      more c.loop-done._done (Arrive c.args.irq) c.args.core.now _ c.run_pend.new.core _ _ _ c.args.held.now.items _
      c.run_pend.new.held.items c.loop-done.invariant.run c.in_ok-run_pend.ensures.ok;
  quiet = c.in_ok-run_pend.ensures.quiet ∙ c.loop-done.invariant.quiet;
}

pub returns-clause-ok : goal.returns-clause-ok
returns-clause-ok g c =
    let all : c.loop-done._done ≡ c.args.count = omega arith in
    subst (λ n. Writes (replicate n (Arrive c.args.irq)) c.args.core.now c.loop-done.core
    (g.K.Sink.taken c.args.out.now) (g.K.Sink.taken c.loop-done.out) c.args.held.now.items c.loop-done.held.items)
    all c.loop-done.invariant.run
