use Rattle.rt_live.proofs.Vocabulary.{IsScript, subst, sym}
use Rattle.rt_dual.proofs.{Beforehand.can_write, Coursing.finished}
use Rattle.rt_dual.proofs.pairing.pair.Goals as goal

pub put_both-requires : goal.put_both-requires
put_both-requires g c =
    can_write c.in-Ok-run_both.ensures.ok
    (subst IsScript (sym c.lines-lines.ensures.lines) c.lines-lines.ensures.script)

pub returns-in-Ok-put_both-clause-all : goal.returns-in-Ok-put_both-clause-all
returns-in-Ok-put_both-clause-all g c =
    let wrote = c.in-Ok-put_both.ensures.ok in
    let end = finished c.in-Ok-run_both.ensures.ok c.lines-lines.ensures.lines c.image-3.ensures c.image-4.ensures
    wrote.1 in
    record { bytes = wrote.0; is = end.0; took = wrote.2; one_leads = end.1; two_leads = end.2 }

pub returns-in-Ok-put_both-clause-ok : goal.returns-in-Ok-put_both-clause-ok
returns-in-Ok-put_both-clause-ok g c =
    let all = returns-in-Ok-put_both-clause-all g c in (all.bytes, all.is, all.took)

pub returns-in-Err-clause-begun : goal.returns-in-Err-clause-begun
returns-in-Err-clause-begun g c =
    let wrote = c.in-Err.ensures.err in
    let end = finished c.in-Ok-run_both.ensures.ok c.lines-lines.ensures.lines c.image-3.ensures c.image-4.ensures
    wrote.1 in
    λ _. record { part = record { bytes = wrote.0; is = end.0; took = wrote.2 }; one_leads = end.1; two_leads = end.2 }

pub returns-in-Err-clause-part : goal.returns-in-Err-clause-part
returns-in-Err-clause-part g c = λ fault. (returns-in-Err-clause-begun g c fault).part
