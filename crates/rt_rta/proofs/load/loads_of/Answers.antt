use Rattle.rt_app.specs.View.{app_of}
use Rattle.rt_rta.proofs.Least.{loads_next, loads_all}
use Rattle.rt_rta.proofs.load.loads_of.Goals as goal

pub loop-task-preserved : goal.loop-task-preserved
loop-task-preserved c =
    let taken = rw c.in_ok-push_load.was at c.push_load.ensures in
    loads_next (app_of c.args.app.now) c.args.limits.now c.args.app.now.tasks.items c.deref-task-items.result.now
    c.loop-task.task-index c.task-item.result c.loop-task.all.items c.push_load.new.loads.items
    c.deref-task-items.ensures.value c.loop-task-test.true c.task-item.is c.loop-task.invariant taken

pub returns : goal.returns
returns c =
    loads_all (app_of c.args.app.now) c.args.limits.now c.args.app.now.tasks.items c.deref-task-items.result.now
    c.loop-task.task-index c.loop-task.all.items c.deref-task-items.ensures.value
    c.loop-task-test.false c.loop-task.invariant
