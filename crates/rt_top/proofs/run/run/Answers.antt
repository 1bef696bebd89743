use Rattle.std.proofs.Common.{inl, inr}
use Rattle.rt_app.specs.View.{app_of}
use Rattle.rt_top.specs.Program.{inputs}
use Rattle.rt_top.specs.Reads.{given_by}
use Rattle.rt_top.proofs.Conducting.{ends_as}
use Rattle.rt_top.proofs.Deciding.{ran}
use Rattle.rt_top.proofs.run.run.Goals as goal

pub returns-in-Ok-clause-ends : goal.returns-in-Ok-clause-ends
returns-in-Ok-clause-ends g c first third is =
    let t = inputs first (given_by g.S.Source.past c.args.source.now c.start.new.source) third in
    let app = app_of c.args.app.now in
    let read = c.in-Ok.ensures.reads first is in
    inl (
      read.0,
      (app, is, c.in-Ok.script, read.1),
      ends_as _ _ _ _ _ c.run_script.ensures.ends (λ ended bytes shows.
          ran t app is ended bytes c.in-Ok.core.image c.in-Ok.ensures.good c.in-Ok.script read.1 shows),
    )

pub returns-in-Err-clause-ends : goal.returns-in-Err-clause-ends
returns-in-Err-clause-ends g c first third is =
    inr (c.in-Err.reply, c.in-Err.ensures.reads first is, c.finish.ensures.finished)
