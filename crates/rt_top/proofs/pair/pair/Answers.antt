use Rattle.std.proofs.Common.{inl}
use Rattle.rt_app.specs.View.{app_of}
use Rattle.rt_top.specs.Program.{inputs}
use Rattle.rt_top.specs.Reads.{given_by}
use Rattle.rt_top.proofs.Conducting.{kept, conducts_behind, ends_as, finished, one_conducts, refused_answers}
use Rattle.rt_top.proofs.Deciding.{paired}
use Rattle.rt_top.proofs.pair.pair.Goals as goal

pub returns-in-Ok-start : goal.returns-in-Ok-start
returns-in-Ok-start g c first is =
    let second = given_by g.B.Source.past c.args.second.now c.read_other.new.source in
    let t = inputs first second (given_by g.C.Source.past c.args.third.now c.start.new.source) in
    let app = app_of c.args.app.now in
    let other = c.in-Ok.ensures.reads first in
    let read = c.in-Ok-start.ensures.reads first is in
    conducts_behind other.0 (app_of c.in-Ok.other, other.1) (one_conducts tt (inl (
      read.0,
      (app, is, c.in-Ok-start.script, read.1),
      ends_as _ _ _ _ _ c.run_pair.ensures.ends (λ ended bytes shows.
          paired t app is ended bytes c.in-Ok-start.core.image c.in-Ok-start.ensures.good c.in-Ok-start.script
          (app_of c.in-Ok.other) other.1 read.1 shows),
    )) c.run_pair.ensures.heard)

pub returns-in-Ok : goal.returns-in-Ok
returns-in-Ok g c first is =
    let other = c.in-Ok.ensures.reads first in
    conducts_behind other.0 (app_of c.in-Ok.other, other.1) (finished (refused_answers tt
    (c.in-Err-start.ensures.reads first is)) c.finish.ensures.finished c.finish.ensures.heard)

pub returns : goal.returns
returns g c first is =
    finished (refused_answers (kept, tt) (c.in-Err.ensures.reads first)) c.finish-in-Err.ensures.finished
    c.finish-in-Err.ensures.heard
