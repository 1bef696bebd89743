use Rattle.rt_live.proofs.Vocabulary.{on_err_from, on_err_weaker, on_ok_weaker, part_more, part_on, refl, took_on}
use Rattle.rt_dual.proofs.pairing.put_both.Goals as goal

pub returns-in_err-put_core-clause-err : goal.returns-in_err-put_core-clause-err
returns-in_err-put_core-clause-err g c =
    on_err_from c.from_residual.result (
      _,
      record { one = _; two = _; are = c.accounts_of-accounts.ensures; written = refl },
      part_more _ _ _ _ c.in_err-put_core.ensures.err,
    )

pub returns-clause-ok : goal.returns-clause-ok
returns-clause-ok g c =
    on_ok_weaker c.put_core-2.result (λ took. (
      _,
      record { one = _; two = _; are = c.accounts_of-accounts.ensures; written = refl },
      took_on _ _ _ _ _ c.in_ok-put_core.ensures.ok took,
    )) c.put_core-2.ensures.ok

pub returns-clause-err : goal.returns-clause-err
returns-clause-err g c =
    on_err_weaker c.put_core-2.result (λ part. (
      _,
      record { one = _; two = _; are = c.accounts_of-accounts.ensures; written = refl },
      part_on _ _ _ _ _ c.in_ok-put_core.ensures.ok part,
    )) c.put_core-2.ensures.err
