use Rattle.std.proofs.Common.{subst}
use Rattle.rt_app.specs.View.{app_of}
use Rattle.rt_top.specs.Reads.{given_by}
use Rattle.rt_top.specs.Inside.Meant.{command_word, IsInRange}
use Rattle.rt_top.proofs.Conducting.{kept, conducts_behind, finished, of_application, one_answers, refused_answers}
use Rattle.rt_top.proofs.Conducting.{replies_answers}
use Rattle.rt_top.proofs.decide.decide.Goals as goal

pub demo-requires : goal.demo-requires
demo-requires g c =
    let range = subst (λ x. IsInRange (command_word x)) c.in-Demo.is c.requires in
    record { some = range.0; most = range.1 }

pub returns-in-Demo : goal.returns-in-Demo
returns-in-Demo g c =
    rw c.in-Demo.is (finished (replies_answers (kept, (kept, (kept, tt))) c.demo.ensures) c.finish.ensures.finished
    c.finish.ensures.heard)

pub returns-in-Fmt : goal.returns-in-Fmt
returns-in-Fmt g c =
    let second = given_by g.B.Source.past c.args.second.now c.args.second.now in
    let third = given_by g.C.Source.past c.args.third.now c.args.third.now in
    rw c.in-Fmt.is (finished (one_answers (kept, (kept, tt)) (c.fmt.ensures second third))
    c.finish-in-Fmt.ensures.finished
    c.finish-in-Fmt.ensures.heard)

pub returns-in-Verify : goal.returns-in-Verify
returns-in-Verify g c =
    let second = given_by g.B.Source.past c.args.second.now c.args.second.now in
    let third = given_by g.C.Source.past c.args.third.now c.args.third.now in
    rw c.in-Verify.is (finished (one_answers (kept, (kept, tt)) (c.verify.ensures second third))
    c.finish-in-Verify.ensures.finished c.finish-in-Verify.ensures.heard)

pub decide_of-requires-clause-of_application : goal.decide_of-requires-clause-of_application
decide_of-requires-clause-of_application g c lifetimes outlives =
    of_application c.args.command c.in_default.not-Demo c.in_default.not-Fmt c.in_default.not-Verify

pub returns-in-Ok : goal.returns-in-Ok
returns-in-Ok g c =
    let kinds = of_application c.args.command c.in_default.not-Demo c.in_default.not-Fmt c.in_default.not-Verify in
    let read = c.in-Ok.ensures.reads in
    rw kinds (conducts_behind read.0 (app_of c.in-Ok.app, read.1) (c.decide_of.ensures _ read.1))

pub returns-in-Err : goal.returns-in-Err
returns-in-Err g c =
    let kinds = of_application c.args.command c.in_default.not-Demo c.in_default.not-Fmt c.in_default.not-Verify in
    rw kinds (finished (refused_answers (kept, (kept, tt)) c.in-Err.ensures.reads) c.finish-in-Err.ensures.finished
    c.finish-in-Err.ensures.heard)
