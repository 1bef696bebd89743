use Rattle.rt_inputs_audit.proofs.Auditing.{goes_silent, goes_on, line_refuses}
use Rattle.rt_inputs_audit.proofs.auditor.audit_line.Goals as goal

pub returns-in-Ok-None : goal.returns-in-Ok-None
returns-in-Ok-None c ls counted at =
    goes_silent _ _ _ ls _ _ c.args.line.now _ (rw c.in-Ok-None.field-0-is at c.in-Ok-None.ensures.told) at

pub returns-in_ok-take-in-Ok-Some : goal.returns-in_ok-take-in-Ok-Some
returns-in_ok-take-in-Ok-Some c ls counted at =
    goes_on _ _ _ ls _ _ c.args.line.now _ _ c.in-Ok-Some.shown
    (rw c.in-Ok-Some.field-0-is at c.in-Ok-Some.ensures.told)
    (λ shown judged. c.in_ok-take-in-Ok-Some.ensures shown judged) at

pub returns-in-Err : goal.returns-in-Err
returns-in-Err c ls counted at =
    line_refuses _ _ _ ls _ c.args.reader.now c.args.line.now _ c.args.number c.in-Err.cause counted
    c.in-Err.ensures.told at
