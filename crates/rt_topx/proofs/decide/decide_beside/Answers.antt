use Rattle.rt_top.proofs.Conducting.{finished, one_answers, one_conducts}
use Rattle.rt_topx.proofs.decide.decide_beside.Goals as goal

pub returns-in-Run : goal.returns-in-Run
returns-in-Run g c first second is of_board =
    rw c.in-Run.is (one_conducts tt (c.run.ensures.ends first second is of_board) c.run.ensures.heard)

pub returns-in-Audit : goal.returns-in-Audit
returns-in-Audit g c first second is of_board =
    rw c.in-Audit.is (finished (one_answers tt (c.audit.ensures first second is of_board)) c.finish.ensures.finished
    c.finish.ensures.heard)

pub returns-in-Live : goal.returns-in-Live
returns-in-Live g c first second is of_board =
    rw c.in-Live.is (one_conducts tt (c.live.ensures.ends first second is of_board) c.live.ensures.heard)
