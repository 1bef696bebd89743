use Rattle.rt_app.specs.View.{app_of}
use Rattle.rt_top.specs.Program.{inputs}
use Rattle.rt_top.specs.Reads.{given_by}
use Rattle.rt_top.proofs.Conducting.{kept, conducts_behind, finished, refused_answers}
use Rattle.rt_topx.proofs.Conducting.{goes_on}
use Rattle.rt_topx.proofs.decide.decide_on_board.Goals as goal

pub returns-in-Ok : goal.returns-in-Ok
returns-in-Ok g c first is =
    let second = given_by g.B.Source.past c.args.second.now c.read_board_of.new.source in
    let third = given_by g.C.Source.past c.args.third.now c.decide_beside.new.third in
    let read = c.in-Ok.ensures.reads (inputs first second third) is in
    let kinds = goes_on c.args.beside in
    rw kinds (conducts_behind read.0 (app_of c.args.app.now, is, c.in-Ok.board, read.1)
    (c.decide_beside.ensures first second is read.1))

pub returns-in-Err : goal.returns-in-Err
returns-in-Err g c first is =
    let second = given_by g.B.Source.past c.args.second.now c.read_board_of.new.source in
    let third = given_by g.C.Source.past c.args.third.now c.args.third.now in
    let kinds = goes_on c.args.beside in
    rw kinds (finished (refused_answers (kept, tt) (c.in-Err.ensures.reads (inputs first second third) is))
    c.finish.ensures.finished c.finish.ensures.heard)
