use Rattle.rt_live.proofs.Vocabulary.{Image, Took, TookPrefix, account_text, ap, on_err_from, on_err_weaker}
use Rattle.rt_live.proofs.Vocabulary.{on_ok_weaker, part_more, part_on, subst, took_on}
use Rattle.rt_dual.proofs.writing.put_core.Goals as goal

pub returns-in_err-put_all-clause-err : goal.returns-in_err-put_all-clause-err
returns-in_err-put_all-clause-err g c =
    on_err_from c.from_residual.result (part_more _ _ _ _
    (subst (TookPrefix _ _) c.deref.ensures.value c.in_err-put_all.ensures.err))

pub returns-clause-ok : goal.returns-clause-ok
returns-clause-ok g c =
    let told = λ (i : Image). account_text i.names c.args.account.now.rows.items in
    on_ok_weaker c.put_account.result (λ took. took_on _ _ _ _ (told c.args.image.now)
    (subst (Took _ _) c.deref.ensures.value c.in_ok-put_all.ensures.ok)
    (subst (Took _ _) (ap told c.image.view_is) took)) c.put_account.ensures.ok

pub returns-clause-err : goal.returns-clause-err
returns-clause-err g c =
    let told = λ (i : Image). account_text i.names c.args.account.now.rows.items in
    on_err_weaker c.put_account.result (λ part. part_on _ _ _ _ (told c.args.image.now)
    (subst (Took _ _) c.deref.ensures.value c.in_ok-put_all.ensures.ok)
    (subst (TookPrefix _ _) (ap told c.image.view_is) part)) c.put_account.ensures.err
