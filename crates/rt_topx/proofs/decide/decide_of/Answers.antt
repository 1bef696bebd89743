use Rattle.rt_app.specs.View.{app_of}
use Rattle.rt_top.proofs.Conducting.{kept, finished, one_answers, replies_answers}
use Rattle.rt_top.proofs.Giving.{replies_as}
use Rattle.rt_topx.proofs.decide.decide_of.Goals as goal

pub returns-in-Run : goal.returns-in-Run
returns-in-Run g c first is = rw c.in-Run.is (c.decide_on_board.ensures first is)

pub returns-in-Audit : goal.returns-in-Audit
returns-in-Audit g c first is = rw c.in-Audit.is (c.decide_on_board-in-Audit.ensures first is)

pub returns-in-Live : goal.returns-in-Live
returns-in-Live g c first is = rw c.in-Live.is (c.decide_on_board-in-Live.ensures first is)

pub returns-in-Native : goal.returns-in-Native
returns-in-Native g c first is =
    rw c.in-Native.is (finished (one_answers (kept, tt) (c.native.ensures first _ is)) c.finish.ensures.finished
    c.finish.ensures.heard)

pub returns-in-Cycles : goal.returns-in-Cycles
returns-in-Cycles g c first is =
    let app = app_of c.args.app.now in
    rw c.in-Cycles.is (finished (replies_answers (kept, (kept, tt)) (replies_as c.cycles.result c.cycles.ensures
    (λ ended bytes p.
    (p.0, record { app = app; of_text = is; image = p.1.0; is = p.1.1; written = p.1.2 }))))
    c.finish-in-Cycles.ensures.finished c.finish-in-Cycles.ensures.heard)

pub returns-in-Respond : goal.returns-in-Respond
returns-in-Respond g c first is =
    rw c.in-Respond.is (finished (one_answers (kept, tt) (c.respond.ensures first _ is))
    c.finish-in-Respond.ensures.finished c.finish-in-Respond.ensures.heard)
