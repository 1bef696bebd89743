use Rattle.rt_top.proofs.Auditing.{goes_silent, goes_on, line_refuses}
use Rattle.rt_top.proofs.auditor.audit_line.Goals as goal

pub returns-in-Ok-None : goal.returns-in-Ok-None
returns-in-Ok-None c ls counted at =
    goes_silent c.args.line.now (rw c.in-Ok-None.field-0-is at c.in-Ok-None.ensures.read) at

pub returns-in_ok-take-in-Ok-Some : goal.returns-in_ok-take-in-Ok-Some
returns-in_ok-take-in-Ok-Some c ls counted at =
    goes_on c.args.line.now c.in-Ok-Some.item (rw c.in-Ok-Some.field-0-is at c.in-Ok-Some.ensures.read)
    (λ items judged. c.in_ok-take-in-Ok-Some.ensures items judged) at

pub returns-in-Err : goal.returns-in-Err
returns-in-Err c ls counted at =
    line_refuses c.args.line.now c.args.number c.in-Err.refusal counted c.in-Err.ensures.refused at
