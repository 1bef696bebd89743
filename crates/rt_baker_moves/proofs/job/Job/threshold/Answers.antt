use Rattle.std.proofs.Common.{ap, ◌∙◌}
use Rattle.rt_app.specs.View.{app_of}
use Rattle.rt_baker_moves.specs.Job.{AuditorJob}
use Rattle.rt_baker_moves.proofs.SystemCeiling.{sections_next}
use Rattle.rt_baker_moves.proofs.job.Job.threshold.Goals as goal

pub loop-section-preserved : goal.loop-section-preserved
loop-section-preserved c =
    let app = app_of c.args.machine.now.code.now.app.now in
    sections_next app c.args.self.now.priority c.args.self.now.sections
    c.deref-section-items.result.now c.loop-section.section-index c.section-item.result c.loop-section.threshold
    c.ceiling.result c.from.result c.max-threshold.result (c.deref-section-items.ensures.value
    ∙ ap (λ (j : AuditorJob). j.sections) c.self.view_is) c.loop-section-test.true c.section-item.is
    c.loop-section.invariant c.ceiling.ensures c.from.ensures c.max-threshold.ensures
