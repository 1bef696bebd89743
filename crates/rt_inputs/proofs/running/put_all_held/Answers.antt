use Rattle.std.proofs.Common.{◌++◌, subst, ap, ◌∙◌}
use Rattle.std.proofs.lemmas.Result.{on_ok_weaker, on_err_weaker}
use Rattle.rt_lemmas.proofs.Results.{on_err_from}
use Rattle.rt_outside.specs.Bytes.{Took, TookPrefix}
use Rattle.rt_trace.specs.Text.{total_text}
use Rattle.rt_run.proofs.Taking.{part_more, took_on, part_on, cause_on}
use Rattle.rt_inputs.proofs.running.put_all_held.Goals as goal

pub returns-in_err-put_held-clause-err : goal.returns-in_err-put_held-clause-err
returns-in_err-put_held-clause-err g c =
    on_err_from c.from_residual.result (part_more _ _ c.args.held.now.items _ c.in_err-put_held.ensures.err)

pub returns-clause-ok : goal.returns-clause-ok
returns-clause-ok g c =
    let mid = g.K.Sink.taken c.put_held.new.out in
    let after = g.K.Sink.taken c.put_end.new.out in
    let total = total_text c.args.total in
    on_ok_weaker c.put_end.result
    (λ took. took_on _ mid after c.args.held.now.items total c.in_ok-put_held.ensures.ok
    (subst (Took mid after) (ap (λ h. h ++ total) c.new.ensures) took))
    c.put_end.ensures.ok

pub returns-clause-err : goal.returns-clause-err
returns-clause-err g c =
    let mid = g.K.Sink.taken c.put_held.new.out in
    let after = g.K.Sink.taken c.put_end.new.out in
    let total = total_text c.args.total in
    on_err_weaker c.put_end.result
    (λ part. part_on _ mid after c.args.held.now.items total c.in_ok-put_held.ensures.ok
    (subst (TookPrefix mid after) (ap (λ h. h ++ total) c.new.ensures) part))
    c.put_end.ensures.err

pub returns-clause-cause : goal.returns-clause-cause
returns-clause-cause g c = cause_on _ _ _ c.put_end.result c.in_ok-put_held.ensures.quiet c.put_end.ensures.cause

pub returns-clause-quiet : goal.returns-clause-quiet
returns-clause-quiet g c =
    on_ok_weaker c.put_end.result (λ same. same ∙ c.in_ok-put_held.ensures.quiet) c.put_end.ensures.quiet
