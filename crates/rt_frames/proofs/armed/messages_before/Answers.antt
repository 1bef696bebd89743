use Rattle.std.proofs.Common.{map, arith}
use Rattle.std.proofs.lemmas.List.{length-map}
use Rattle.rt_app.specs.View.{app_of, task_of}
use Rattle.rt_frames.proofs.Spawners.{before_more, before_all}
use Rattle.rt_frames.proofs.armed.messages_before.Goals as goal

pub loop-number-preserved : goal.loop-number-preserved
loop-number-preserved c =
    let app = app_of c.args.app.now in
    let tasks = c.args.app.now.tasks.items in
    let more = before_more app c.args.armed.now c.requires tasks c.loop-number.number c.index.result.now (omega arith)
    c.index.ensures in
    record { value = omega (arith, more); few = omega arith }

pub returns-clause-value : goal.returns-clause-value
returns-clause-value c =
    let app = app_of c.args.app.now in
    let tasks = map task_of c.args.app.now.tasks.items in
    let long = length-map c.args.app.now.tasks.items task_of in
    let all = before_all app c.args.armed.now c.requires tasks c.args.end c.loop-number.number
    (omega (arith, long)) (omega arith) (omega (arith, long)) in
    omega (arith, all)
