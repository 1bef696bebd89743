use Rattle.rt_app.specs.View.{app_of}
use Rattle.rt_baker_moves.proofs.Early.{room_at_first}
use Rattle.rt_baker_moves.proofs.Starting.{first_stands, reset_is}
use Rattle.rt_baker_moves.proofs.state.State.first.Goals as goal

pub first_job-requires-clause-room : goal.first_job-requires-clause-room
first_job-requires-clause-room c =
    room_at_first (app_of c.args.code.now.app.now) c.in_ok-store.store c.in_ok-store.ensures

pub returns : goal.returns
returns c =
    first_stands (app_of c.args.code.now.app.now) c.in_ok-store.store c.first_job.new.store c.in_ok-job.job _
    c.in_ok-job.ensures c.in_ok-store.ensures
    (reset_is c.in_ok-job.job c.push.new.self.items c.new-jobs.result.items c.in_ok-pending.pending.items
    c.in_ok-waiting.waiting.items c.first_job.new.store c.in_ok-push.ensures.items c.new-jobs.ensures.items
    c.in_ok-pending.ensures c.in_ok-waiting.ensures.items)
