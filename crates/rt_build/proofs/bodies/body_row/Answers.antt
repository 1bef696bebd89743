use Rattle.std.proofs.lemmas.Option.{slice_get_within}
use Rattle.rt_app.specs.View.{app_of, task_of}
use Rattle.rt_build.specs.Inside.Code.{entries_of}
use Rattle.rt_build.proofs.Served.{body_row_is}
use Rattle.rt_build.proofs.bodies.body_row.Goals as goal

pub start_of-start-requires-clause-within : goal.start_of-start-requires-clause-within
start_of-start-requires-clause-within c =
    slice_get_within (app_of c.args.plan.now.app.now).tasks c.args.number (task_of c.args.task.now) c.requires.task

pub returns : goal.returns
returns c =
    let t = task_of c.args.task.now in
    let start = c.start_of-start in
    body_row_is (entries_of (app_of c.args.plan.now.app.now) c.args.code.now) c.args.number t start.result.entry
    start.result.frame start.ensures.entry (start.ensures.frame t c.requires.task)
