use Rattle.std.proofs.Common.{[], ◌∙◌}
use Rattle.rt_app.specs.View.{app_of}
use Rattle.rt_laws.specs.State as laws
use Rattle.rt_baker_work.specs.Todo.{enter_body}
use Rattle.rt_baker_moves.proofs.Starting.{begins_as}
use Rattle.rt_baker_moves.proofs.starts.first_job.Goals as goal

pub returns : goal.returns
returns c =
    let app = app_of c.args.code.now.app.now in
    begins_as app laws.Init c.greatest.result _ c.from-cost.result _ (enter_body app app.init []) c.args.store.now
    c.in_ok-job.job c.begin_job.new.store c.greatest.ensures (c.from-cost.ensures ∙ c.body_cost.ensures)
    (c.in_ok-job.ensures (enter_body app app.init []) c.new-work.result c.new-work.ensures
    (c.in_ok-begin_body.ensures app c.args.store.now))
