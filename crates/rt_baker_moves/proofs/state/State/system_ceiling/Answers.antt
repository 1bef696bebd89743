use Rattle.std.proofs.Common.{ap, ◌∙◌}
use Rattle.rt_app.specs.View.{app_of}
use Rattle.rt_baker_moves.specs.State.{AuditorState}
use Rattle.rt_baker_moves.proofs.SystemCeiling.{jobs_next}
use Rattle.rt_baker_moves.proofs.state.State.system_ceiling.Goals as goal

pub loop-job-preserved : goal.loop-job-preserved
loop-job-preserved c =
    let app = app_of c.args.machine.now.code.now.app.now in
    jobs_next app c.args.self.now.jobs c.deref-job-items.result.now
    c.loop-job.job-index c.job-item.result c.loop-job.greatest c.threshold.result c.max-greatest.result
    (c.deref-job-items.ensures.value ∙ ap (λ (s : AuditorState). s.jobs) c.self.view_is) c.loop-job-test.true
    c.job-item.is
    c.loop-job.invariant c.threshold.ensures c.max-greatest.ensures
