use Rattle.std.proofs.Common.{Some, ◌++◌}
use Rattle.rt_app.specs.Handlers.{task_services, timer_service}
use Rattle.rt_app.specs.Level.{levels}
use Rattle.rt_app.specs.View.{app_of}
use Rattle.rt_baker_moves.specs.Inside.Serving.{serves, level_services}
use Rattle.rt_baker_moves.proofs.Serving.{served_in_front, served_behind}
use Rattle.rt_baker_moves.proofs.served.service.Goals as goal

pub returns-in-Some : goal.returns-in-Some
returns-in-Some c =
    let app = app_of c.args.app.now in
    served_in_front app c.hardware.result c.in-Some.task (serves app c.args.irq) (task_services 0 app.tasks)
    (level_services app (levels app) ++ timer_service app.mono) c.in-Some.is c.hardware.ensures

pub returns-in-Some-served_dispatcher : goal.returns-in-Some-served_dispatcher
returns-in-Some-served_dispatcher c =
    let app = app_of c.args.app.now in
    served_behind app c.hardware.result (Some c.in-Some-served_dispatcher.served) (serves app c.args.irq)
    (task_services 0
    app.tasks) (level_services app (levels app) ++ timer_service app.mono) c.in_default.is c.hardware.ensures
    (served_in_front app c.served_dispatcher.result c.in-Some-served_dispatcher.served (serves app c.args.irq)
    (level_services app
    (levels app)) (timer_service app.mono) c.in-Some-served_dispatcher.is c.served_dispatcher.ensures)

pub returns : goal.returns
returns c =
    let app = app_of c.args.app.now in
    served_behind app c.hardware.result c.served_timer.result (serves app c.args.irq) (task_services 0 app.tasks)
    (level_services app (levels app) ++ timer_service app.mono) c.in_default.is c.hardware.ensures
    (served_behind app c.served_dispatcher.result c.served_timer.result (serves app c.args.irq)
    (level_services app (levels
    app)) (timer_service app.mono) c.in_default-served_dispatcher.is c.served_dispatcher.ensures c.served_timer.ensures)
