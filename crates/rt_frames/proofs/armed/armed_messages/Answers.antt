use Rattle.std.proofs.Common.{map, ap, arith}
use Rattle.std.proofs.lemmas.List.{length-map, take_all}
use Rattle.rt_app.specs.View.{app_of, task_of}
use Rattle.rt_app.specs.Level.{armed_capacities}
use Rattle.rt_frames.proofs.armed.armed_messages.Goals as goal

pub returns-clause-value : goal.returns-clause-value
returns-clause-value c =
    let tasks = map task_of c.args.app.now.tasks.items in
    let long = length-map c.args.app.now.tasks.items task_of in
    let all = take_all c.len.result tasks (omega (arith, long)) in
    omega (arith, ap (armed_capacities (app_of c.args.app.now) 0) all)
