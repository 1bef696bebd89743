use Rattle.rt_live.proofs.Vocabulary.{Image, ap, on_err_weaker, on_ok_weaker, ◌∙◌}
use Rattle.rt_live.proofs.Outputs.{account_part, has_written}
use Rattle.rt_live.proofs.running.run_beside.Goals as goal

pub returns-clause-all : goal.returns-clause-all
returns-clause-all g c =
    let ran = rw c.in_ok-went.was at c.run-went.ensures.ok in
    let named = ap (λ (i : Image). i.names) (c.behind-core.view_is ∙ c.image.ensures ∙ ran.leads.image) in
    on_ok_weaker c.put_account.result
    (has_written c.requires.fresh ran c.behind-core.inside.names named (g.K.Sink.taken c.put_account.new.out))
    c.put_account.ensures.ok

pub returns-clause-ok : goal.returns-clause-ok
returns-clause-ok g c =
    on_ok_weaker c.put_account.result (λ all. (all.bytes, all.is, all.took)) (returns-clause-all g c)

pub returns-clause-begun : goal.returns-clause-begun
returns-clause-begun g c =
    let ran = rw c.in_ok-went.was at c.run-went.ensures.ok in
    let named = ap (λ (i : Image). i.names) (c.behind-core.view_is ∙ c.image.ensures ∙ ran.leads.image) in
    on_err_weaker c.put_account.result
    (account_part c.requires.fresh ran c.behind-core.inside.names named (g.K.Sink.taken c.put_account.new.out))
    c.put_account.ensures.err

pub returns-clause-err : goal.returns-clause-err
returns-clause-err g c = on_err_weaker c.put_account.result (λ begun. begun.part) (returns-clause-begun g c)
