use Rattle.std.proofs.Common.{ap, arith}
use Rattle.rt_actions.specs.Content.{Armed}
use Rattle.rt_baker_work.proofs.Timing.{due_none, due_now, due_later}
use Rattle.rt_baker_work.proofs.timer.due.Goals as goal

pub returns-in-None : goal.returns-in-None
returns-in-None c = λ app. due_none app c.args.time c.args.armed.now c.least.result c.least.ensures c.in-None.is

pub returns-then-first-time : goal.returns-then-first-time
returns-then-first-time c =
    λ app.
    due_later app c.args.time c.args.armed.now c.least.result c.in-Some.index c.in-Some-get.first.now
    c.least.ensures c.in-Some.is c.in-Some-get.ensures.lookup.3.0 c.in-Some-get.ensures.lookup.1
    (omega (arith, ap (λ (a : Armed). a.instant) c.first.view_is))

pub returns-else-first-time : goal.returns-else-first-time
returns-else-first-time c =
    λ app.
    due_now app c.args.time c.args.armed.now c.least.result c.in-Some.index c.in-Some-get.first.now c.least.ensures
    c.in-Some.is c.in-Some-get.ensures.lookup.3.0 c.in-Some-get.ensures.lookup.1
    (omega (arith, ap (λ (a : Armed). a.instant) c.first.view_is))
