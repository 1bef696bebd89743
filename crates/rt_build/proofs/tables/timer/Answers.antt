use Rattle.std.proofs.Common.{[], refl}
use Rattle.rt_app.specs.View.{app_of}
use Rattle.rt_app.proofs.Sound.{accepted_are_sound}
use Rattle.rt_build.specs.Inside.Code.{entries_of}
use Rattle.rt_build.specs.Inside.Tables.{untimed_services}
use Rattle.rt_build.proofs.Served.{timer_row_is, declared_level}
use Rattle.rt_build.proofs.Services.{timed_service, timer_last}
use Rattle.rt_build.proofs.tables.timer.Goals as goal

pub hw-requires-clause-least : goal.hw-requires-clause-least
hw-requires-clause-least c =
    let app = app_of c.args.plan.now.app.now in
    (declared_level app (accepted_are_sound app c.requires.plan.accepted) (untimed_services app) []
    (timed_service app c.args.mono) (timer_last app c.args.mono c.requires.timed)).0

pub hw-requires-clause-greatest : goal.hw-requires-clause-greatest
hw-requires-clause-greatest c =
    let app = app_of c.args.plan.now.app.now in
    (declared_level app (accepted_are_sound app c.requires.plan.accepted) (untimed_services app) []
    (timed_service app c.args.mono) (timer_last app c.args.mono c.requires.timed)).1

pub returns : goal.returns
returns c =
    let app = app_of c.args.plan.now.app.now in
    timer_row_is app (entries_of app c.args.code.now) c.args.mono.priority c.hw.result c.args.code.now.timer
    c.hw.ensures
    refl
