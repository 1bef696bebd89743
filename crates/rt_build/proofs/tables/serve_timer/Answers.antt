use Rattle.std.proofs.Common.{List, [], Option, Some, set, sym, ap, subst, ◌∙◌, arith}
use Rattle.rt_app.specs.Handlers.{services}
use Rattle.rt_app.specs.View.{app_of}
use Rattle.rt_app.proofs.Sound.{accepted_are_sound}
use Rattle.rt_code.specs.declared.image.Handler.{Handler}
use Rattle.rt_build.specs.Inside.Code.{entries_of}
use Rattle.rt_build.specs.Inside.Tables.{HasHandlers, untimed_services}
use Rattle.rt_build.proofs.Served.{next_served, declared_irq}
use Rattle.rt_build.proofs.Services.{timed_service, timer_last, no_timer}
use Rattle.rt_build.proofs.tables.serve_timer.Goals as goal

pub bounds-handlers-from : goal.bounds-handlers-from
bounds-handlers-from c =
    let app = app_of c.args.plan.now.app.now in
    let declared = declared_irq app (accepted_are_sound app c.requires.plan.accepted) (untimed_services app) []
    (timed_service app c.in-Some.mono) (timer_last app c.in-Some.mono c.in-Some.is) in
    omega (arith, declared, c.requires.others.long, c.from.ensures)

pub returns-in-Some : goal.returns-in-Some
returns-in-Some c =
    let app = app_of c.args.plan.now.app.now in
    let at = entries_of app c.args.code.now in
    let mono = c.in-Some.mono in
    let last = timer_last app mono c.in-Some.is in
    let table = c.args.handlers.now in
    subst (λ (handlers : List (Option Handler)). HasHandlers app at (services app) handlers)
    (sym (ap (λ n. set table n (Some c.timer.result)) c.from.ensures
    ∙ ap (λ h. set table mono.irq (Some h)) c.timer.ensures))
    (next_served app at (accepted_are_sound app c.requires.plan.accepted) (untimed_services app) [] (services app)
    (timed_service app mono) table last last c.requires.others)

pub returns-in_default : goal.returns-in_default
returns-in_default c =
    let app = app_of c.args.plan.now.app.now in
    subst (λ ss. HasHandlers app (entries_of app c.args.code.now) ss c.args.handlers.now)
    (sym (no_timer app c.in_default.is)) c.requires.others
