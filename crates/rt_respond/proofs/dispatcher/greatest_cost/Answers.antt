use Rattle.rt_respond.proofs.Dispatchers.{dearest_next, dearest_all}
use Rattle.rt_respond.proofs.dispatcher.greatest_cost.Goals as goal

pub loop-task-preserved : goal.loop-task-preserved
loop-task-preserved c =
    dearest_next c.args.measure.now c.args.level c.args.tasks.now c.loop-task.task-index c.task-item.result
    c.loop-task.most c.cost_at.result c.max-most.result c.loop-task-test.true c.task-item.is c.loop-task.invariant
    c.cost_at.ensures c.max-most.ensures

pub returns : goal.returns
returns c =
    dearest_all c.args.measure.now c.args.level c.args.tasks.now c.loop-task.task-index c.loop-task.most
    c.loop-task-test.false c.loop-task.invariant
