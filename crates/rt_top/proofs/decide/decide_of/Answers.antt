use Rattle.std.proofs.Common.{subst}
use Rattle.rt_app.specs.View.{app_of}
use Rattle.rt_top.specs.Reads.{given_by}
use Rattle.rt_top.specs.Inside.Meant.{command_word, IsInRange}
use Rattle.rt_top.specs.declared.command.Command.{Command}
use Rattle.rt_top.proofs.Conducting.{kept, finished, one_answers, one_conducts, replies_answers}
use Rattle.rt_top.proofs.Giving.{replies_as}
use Rattle.rt_top.proofs.Deciding.{listed}
use Rattle.rt_top.proofs.decide.decide_of.Goals as goal

pub returns-in-Run : goal.returns-in-Run
returns-in-Run g c first is =
    let third = given_by g.C.Source.past c.args.third.now c.args.third.now in
    rw c.in-Run.is (one_conducts (kept, tt) (c.run.ensures.ends first third is) c.run.ensures.heard)

pub returns-in-Live : goal.returns-in-Live
returns-in-Live g c first is =
    let third = given_by g.C.Source.past c.args.third.now c.args.third.now in
    rw c.in-Live.is (one_conducts (kept, tt) (c.live.ensures.ends first third is) c.live.ensures.heard)

pub returns-in-Pair : goal.returns-in-Pair
returns-in-Pair g c first is = rw c.in-Pair.is (c.pair.ensures first is)

pub returns-in-Audit : goal.returns-in-Audit
returns-in-Audit g c first is =
    let third = given_by g.C.Source.past c.args.third.now c.args.third.now in
    rw c.in-Audit.is (finished (one_answers (kept, tt) (c.audit.ensures first third is)) c.finish.ensures.finished
    c.finish.ensures.heard)

pub returns-in-Times : goal.returns-in-Times
returns-in-Times g c first is =
    let third = given_by g.C.Source.past c.args.third.now c.args.third.now in
    rw c.in-Times.is (finished (one_answers (kept, tt) (c.times.ensures first third is))
    c.finish-in-Times.ensures.finished
    c.finish-in-Times.ensures.heard)

pub returns-in-Check : goal.returns-in-Check
returns-in-Check g c first is =
    rw c.in-Check.is (finished (replies_answers (kept, (kept, tt)) (replies_as c.check.result c.check.ensures
    (λ ended bytes p. (p.0, (app_of c.args.app.now, is, p.1))))) c.finish-in-Check.ensures.finished
    c.finish-in-Check.ensures.heard)

pub returns-in-Build : goal.returns-in-Build
returns-in-Build g c first is =
    rw c.in-Build.is (finished (replies_answers (kept, (kept, tt)) (replies_as c.build.result c.build.ensures
    (λ ended bytes p. (p.0, listed first (app_of c.args.app.now) is bytes p.1)))) c.finish-in-Build.ensures.finished
    c.finish-in-Build.ensures.heard)

pub returns-in-Deepest : goal.returns-in-Deepest
returns-in-Deepest g c first is =
    rw c.in-Deepest.is (finished (replies_answers (kept, (kept, tt)) (replies_as c.deepest.result c.deepest.ensures
    (λ ended bytes p. (app_of c.args.app.now, is, p)))) c.finish-in-Deepest.ensures.finished
    c.finish-in-Deepest.ensures.heard)

pub returns-in-Soak : goal.returns-in-Soak
returns-in-Soak g c first is =
    rw c.in-Soak.is (finished (replies_answers (kept, (kept, tt)) (replies_as c.soak.result c.soak.ensures
    (λ ended bytes p. (p.0, (app_of c.args.app.now, is, p.1))))) c.finish-in-Soak.ensures.finished
    c.finish-in-Soak.ensures.heard)

pub soak-requires-clause-some : goal.soak-requires-clause-some
soak-requires-clause-some g c lifetimes outlives =
    (subst (λ (x : Command). IsInRange (command_word x)) c.in-Soak.is c.requires.range).1

pub soak-requires-clause-most : goal.soak-requires-clause-most
soak-requires-clause-most g c lifetimes outlives =
    (subst (λ (x : Command). IsInRange (command_word x)) c.in-Soak.is c.requires.range).2

pub soak-requires-clause-working : goal.soak-requires-clause-working
soak-requires-clause-working g c lifetimes outlives =
    (subst (λ (x : Command). IsInRange (command_word x)) c.in-Soak.is c.requires.range).3

pub soak-requires-clause-few : goal.soak-requires-clause-few
soak-requires-clause-few g c lifetimes outlives =
    (subst (λ (x : Command). IsInRange (command_word x)) c.in-Soak.is c.requires.range).4
