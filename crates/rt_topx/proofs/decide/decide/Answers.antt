use Rattle.rt_app.specs.View.{app_of}
use Rattle.rt_top.specs.Program.{inputs}
use Rattle.rt_top.specs.Reads.{given_by}
use Rattle.rt_top.proofs.Conducting.{kept, conducts_behind, finished, one_answers, refused_answers}
use Rattle.rt_topx.proofs.Conducting.{not_application, not_listing, begins}
use Rattle.rt_topx.proofs.decide.decide.Goals as goal

pub returns-in-Why : goal.returns-in-Why
returns-in-Why g c =
    let second = given_by g.B.Source.past c.args.second.now c.args.second.now in
    let third = given_by g.C.Source.past c.args.third.now c.args.third.now in
    rw c.in-Why.is (finished (one_answers (kept, (kept, tt)) (c.why.ensures second third)) c.finish.ensures.finished
    c.finish.ensures.heard)

pub returns-in-Bounds : goal.returns-in-Bounds
returns-in-Bounds g c =
    let second = given_by g.B.Source.past c.args.second.now c.args.second.now in
    let third = given_by g.C.Source.past c.args.third.now c.args.third.now in
    rw c.in-Bounds.is (finished (one_answers (kept, (kept, tt)) (c.bounds.ensures second third))
    c.finish-in-Bounds.ensures.finished c.finish-in-Bounds.ensures.heard)

pub returns-in-Ok : goal.returns-in-Ok
returns-in-Ok g c =
    let third = given_by g.C.Source.past c.args.third.now c.args.third.now in
    let read = c.in-Ok.ensures.reads in
    rw c.in-TimedBounds.is (conducts_behind read.0 (c.in-Ok.image, read.1)
    (finished (one_answers (kept, tt) (c.timed_bounds.ensures _ third read.1)) c.finish-in-Ok.ensures.finished
    c.finish-in-Ok.ensures.heard))

pub returns-in-Err : goal.returns-in-Err
returns-in-Err g c =
    let second = given_by g.B.Source.past c.args.second.now c.args.second.now in
    let third = given_by g.C.Source.past c.args.third.now c.args.third.now in
    rw c.in-TimedBounds.is (finished (refused_answers (kept, (kept, tt))
    (not_listing (inputs _ second third) _ _ _ c.in-Err.ensures.reads)) c.finish-in-Err.ensures.finished
    c.finish-in-Err.ensures.heard)

pub returns-in-Ok-read_accepted : goal.returns-in-Ok-read_accepted
returns-in-Ok-read_accepted g c =
    let read = c.in-Ok-read_accepted.ensures.reads in
    let kinds = begins c.args.command c.in_default.not-Why c.in_default.not-Bounds
    c.in_default.not-TimedBounds in
    rw kinds (conducts_behind read.0 (app_of c.in-Ok-read_accepted.app, read.1) (c.decide_of.ensures _ read.1))

pub returns-in-Err-read_accepted : goal.returns-in-Err-read_accepted
returns-in-Err-read_accepted g c =
    let second = given_by g.B.Source.past c.args.second.now c.args.second.now in
    let third = given_by g.C.Source.past c.args.third.now c.args.third.now in
    let kinds = begins c.args.command c.in_default.not-Why c.in_default.not-Bounds
    c.in_default.not-TimedBounds in
    rw kinds (finished (refused_answers (kept, (kept, tt))
    (not_application (inputs _ second third) _ _ _ c.in-Err-read_accepted.ensures.reads))
    c.finish-in-Err-read_accepted.ensures.finished c.finish-in-Err-read_accepted.ensures.heard)
