use Rattle.std.proofs.Common.{inl, inr}
use Rattle.rt_app.specs.View.{app_of}
use Rattle.rt_top.specs.Program.{inputs}
use Rattle.rt_top.specs.Reads.{given_by}
use Rattle.rt_top.proofs.Conducting.{ends_as}
use Rattle.rt_topx.proofs.Running.{ran}
use Rattle.rt_topx.proofs.run.run.Goals as goal

pub returns-in-Ok-clause-ends : goal.returns-in-Ok-clause-ends
returns-in-Ok-clause-ends g c first second is of_board =
    let t = inputs first second (given_by g.S.Source.past c.args.source.now c.start.new.source) in
    let app = app_of c.args.app.now in
    let board = c.args.board.now in
    let read = c.in-Ok.ensures.reads t is of_board in
    inl (
      read.0,
      (app, is, board, of_board, c.in-Ok.script, read.1),
      ends_as _ _ _ _ _ c.run_script.ensures.ends (λ ended bytes shows.
          ran t app is board of_board c.requires.inputs c.in-Ok.core.image c.in-Ok.ensures.good c.in-Ok.script read.1
          ended bytes shows),
    )

pub returns-in-Err-clause-ends : goal.returns-in-Err-clause-ends
returns-in-Err-clause-ends g c first second is of_board =
    let t = inputs first second (given_by g.S.Source.past c.args.source.now c.start.new.source) in
    inr (c.in-Err.reply, c.in-Err.ensures.reads t is of_board, c.finish.ensures.finished)

pub run_script-requires-clause-image : goal.run_script-requires-clause-image
run_script-requires-clause-image g c = c.in-Ok.ensures.good.of_application
