use Rattle.std.proofs.Common.{[], ◌∷◌, ◌∙◌}
use Rattle.std.proofs.lemmas.Result.{on_ok_weaker, on_err_weaker}
use Rattle.rt_lemmas.proofs.Results.{on_err_from}
use Rattle.rt_ids.specs.Event.{Arrive}
use Rattle.rt_run.proofs.Taking.{cause_on}
use Rattle.rt_run.proofs.Sent.{sent, sent_cut, broken}
use Rattle.rt_run.proofs.sending.send_pend.Goals as goal

pub returns-in_err-run_pend-clause-err : goal.returns-in_err-run_pend-clause-err
returns-in_err-run_pend-clause-err g c =
    on_err_from c.from_residual.result
    (broken (Arrive c.args.irq) c.args.core.now _ _ c.args.held.now c.requires.empty _
    c.in_err-run_pend.ensures.err)

pub returns-clause-ok : goal.returns-clause-ok
returns-clause-ok g c =
    on_ok_weaker c.put_held.result
    (sent (Arrive c.args.irq ∷ []) c.args.core.now c.run_pend.new.core _ c.args.held.now c.requires.empty _ _
    c.run_pend.new.held
    c.in_ok-run_pend.ensures.ok)
    c.put_held.ensures.ok

pub returns-clause-err : goal.returns-clause-err
returns-clause-err g c =
    on_err_weaker c.put_held.result
    (sent_cut (Arrive c.args.irq) c.args.core.now c.run_pend.new.core _ c.args.held.now c.requires.empty _ _
    c.run_pend.new.held
    c.in_ok-run_pend.ensures.ok)
    c.put_held.ensures.err

pub returns-clause-cause : goal.returns-clause-cause
returns-clause-cause g c = cause_on _ _ _ c.put_held.result c.in_ok-run_pend.ensures.quiet c.put_held.ensures.cause

pub returns-clause-quiet : goal.returns-clause-quiet
returns-clause-quiet g c =
    on_ok_weaker c.put_held.result (λ same. same ∙ c.in_ok-run_pend.ensures.quiet) c.put_held.ensures.quiet
