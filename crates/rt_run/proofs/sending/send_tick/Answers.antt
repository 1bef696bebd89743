use Rattle.std.proofs.Common.{[], ◌∷◌, ◌∙◌}
use Rattle.std.proofs.lemmas.Result.{on_ok_weaker, on_err_weaker}
use Rattle.rt_lemmas.proofs.Results.{on_err_from}
use Rattle.rt_ids.specs.Event.{Tick}
use Rattle.rt_run.proofs.Taking.{cause_on}
use Rattle.rt_run.proofs.Sent.{sent, sent_cut, broken}
use Rattle.rt_run.proofs.sending.send_tick.Goals as goal

pub returns-in_err-run_tick-clause-err : goal.returns-in_err-run_tick-clause-err
returns-in_err-run_tick-clause-err g c =
    on_err_from c.from_residual.result
    (broken Tick c.args.core.now _ _ c.args.held.now c.requires.empty _ c.in_err-run_tick.ensures.err)

pub returns-clause-ok : goal.returns-clause-ok
returns-clause-ok g c =
    on_ok_weaker c.put_held.result
    (sent (Tick ∷ []) c.args.core.now c.run_tick.new.core _ c.args.held.now c.requires.empty _ _ c.run_tick.new.held
    c.in_ok-run_tick.ensures.ok)
    c.put_held.ensures.ok

pub returns-clause-err : goal.returns-clause-err
returns-clause-err g c =
    on_err_weaker c.put_held.result
    (sent_cut Tick c.args.core.now c.run_tick.new.core _ c.args.held.now c.requires.empty _ _
    c.run_tick.new.held
    c.in_ok-run_tick.ensures.ok)
    c.put_held.ensures.err

pub returns-clause-cause : goal.returns-clause-cause
returns-clause-cause g c = cause_on _ _ _ c.put_held.result c.in_ok-run_tick.ensures.quiet c.put_held.ensures.cause

pub returns-clause-quiet : goal.returns-clause-quiet
returns-clause-quiet g c =
    on_ok_weaker c.put_held.result (λ same. same ∙ c.in_ok-run_tick.ensures.quiet) c.put_held.ensures.quiet
