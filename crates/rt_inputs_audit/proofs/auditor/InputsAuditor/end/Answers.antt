use Rattle.rt_inputs_audit.proofs.Auditing.{end_wrong, end_unended, end_judged}
use Rattle.rt_inputs_audit.proofs.auditor.InputsAuditor.end.Goals as goal

pub returns-in-Some : goal.returns-in-Some
returns-in-Some g c app b text is stood short counted h =
    end_wrong text is stood short h c.in-Some.refusal c.in-Some.is

pub returns-in-Ok : goal.returns-in-Ok
returns-in-Ok g c app b text is stood short counted h =
    end_judged text is stood short h c.in-None.is c.in-Ok.total c.verdict.result c.count-lines.result
    c.in-Ok.ensures.whole c.verdict.ensures c.count-lines.ensures

pub returns-in-Err : goal.returns-in-Err
returns-in-Err g c app b text is stood short counted h =
    end_unended text is stood short h c.in-None.is c.args.count c.in-Err.cause counted c.in-Err.ensures.unended
