use Rattle.std.proofs.Common.{length, Some, refl}
use Rattle.rt_respond.proofs.Blocked.{blocking_of}
use Rattle.rt_respond.proofs.blocking.blocking.Goals as goal

pub returns : goal.returns
returns c =
    blocking_of c.args.app.now c.args.held.now c.requires.accepted c.requires.held c.idle_holds.result
    c.with_transit-idle.result c.tasks_hold.result c.handlers_hold.result c.greater_of-jobs.result
    c.greater_of-lower.result (Some (length c.args.held.now.transit.now)) c.greater_of.result c.deref.result.now
    c.deref.ensures.value
    c.idle_holds.ensures c.with_transit-idle.ensures c.tasks_hold.ensures c.handlers_hold.ensures
    c.greater_of-jobs.ensures c.greater_of-lower.ensures refl c.greater_of.ensures

pub handlers_hold-requires : goal.handlers_hold-requires
handlers_hold-requires c = c.requires.accepted.limits.few_tasks
