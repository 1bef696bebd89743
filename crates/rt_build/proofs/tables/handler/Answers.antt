use Rattle.std.proofs.lemmas.Option.{slice_get_within}
use Rattle.rt_app.specs.View.{app_of, task_of}
use Rattle.rt_build.specs.Inside.Code.{entries_of}
use Rattle.rt_build.proofs.Served.{row_is, priority_of}
use Rattle.rt_build.proofs.tables.handler.Goals as goal

pub start_of-start-requires-clause-within : goal.start_of-start-requires-clause-within
start_of-start-requires-clause-within c =
    slice_get_within (app_of c.args.plan.now.app.now).tasks c.args.number (task_of c.args.task.now) c.requires.task

pub hw-requires-clause-least : goal.hw-requires-clause-least
hw-requires-clause-least c = (priority_of (app_of c.args.plan.now.app.now) c.requires.plan.accepted c.args.number
    (task_of c.args.task.now) c.requires.task).0

pub hw-requires-clause-greatest : goal.hw-requires-clause-greatest
hw-requires-clause-greatest c =
    (priority_of (app_of c.args.plan.now.app.now) c.requires.plan.accepted c.args.number (task_of c.args.task.now)
    c.requires.task).1

pub returns : goal.returns
returns c =
    let app = app_of c.args.plan.now.app.now in
    let t = task_of c.args.task.now in
    let start = c.start_of-start in
    row_is app (entries_of app c.args.code.now) c.args.number t c.hw.result start.result.entry start.result.frame
    c.requires.task c.hw.ensures start.ensures.entry (start.ensures.frame t c.requires.task)
