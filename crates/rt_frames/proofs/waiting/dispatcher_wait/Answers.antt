use Rattle.std.proofs.Common.{rules, ◌<◌, refl}
use Rattle.rt_app.specs.View.{task_of, app_of}
use Rattle.rt_app.specs.declared.costs.TheConstants.{PRIORITIES}
use Rattle.rt_frames.proofs.Reaching.{ready_there, free_there}
use Rattle.rt_frames.proofs.waiting.dispatcher_wait.Goals as goal

pub ready_at-ready-requires : goal.ready_at-ready-requires
ready_at-ready-requires c =
    let few : c.args.task.now.priority < PRIORITIES = search rules in
    ready_there (app_of c.args.app.now) c.args.ceilings.now c.requires.ceilings c.args.number
    c.args.task.now.priority (task_of c.args.task.now) c.requires.task c.requires.software refl few

pub free_at-requires : goal.free_at-requires
free_at-requires c =
    free_there (app_of c.args.app.now) c.args.ceilings.now c.requires.ceilings c.args.number
    (task_of c.args.task.now) c.requires.task c.requires.software
