use Rattle.rt_top.proofs.Auditing.{end_wrong, end_unended, end_judged}
use Rattle.rt_top.proofs.auditor.Auditor.end.Goals as goal

pub returns-in-Some : goal.returns-in-Some
returns-in-Some g c app text is short counted h = end_wrong text is short h c.in-Some.refusal c.in-Some.is

pub returns-in-Ok : goal.returns-in-Ok
returns-in-Ok g c app text is short counted h =
    end_judged text is short h c.in-None.is c.in-Ok.total c.verdict.result c.count-items.result c.in-Ok.ensures.whole
    c.verdict.ensures c.count-items.ensures

pub returns-in-Err : goal.returns-in-Err
returns-in-Err g c app text is short counted h =
    end_unended text is short h c.in-None.is c.args.count c.in-Err.refusal counted c.in-Err.ensures.unended
