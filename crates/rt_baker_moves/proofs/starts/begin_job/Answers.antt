use Rattle.rt_app.specs.View.{app_of}
use Rattle.rt_baker_moves.specs.Job.{role_of}
use Rattle.rt_baker_moves.proofs.Starting.{job_begins}
use Rattle.rt_baker_moves.proofs.starts.begin_job.Goals as goal

pub returns : goal.returns
returns c =
    job_begins (app_of c.args.code.now.app.now) (role_of c.args.role) c.args.priority c.args.cost c.new.result
    c.args.work c.settle.new.work c.args.store.now c.settle.new.store c.in_ok-settle.ensures.same
    c.in_ok-settle.ensures.settled c.new.ensures
