use Rattle.std.proofs.Common.{refl, subst, ◌∙◌}
use Rattle.rt_ids.specs.declared.status.Status.TheVariants as status
use Rattle.rt_image_times.specs.Text.{AreImageLimitsRefused, too_long}
use Rattle.rt_rta.specs.declared.refusal.LimitsRefused.TheVariants as in_limits
use Rattle.rt_top.specs.SecondRefusal.{SaysLimits}
use Rattle.rt_top.specs.Inside.Using.{stop}
use Rattle.rt_top.proofs.Conducting.{refusal_reads}
use Rattle.rt_topx.specs.Kinds as kind
use Rattle.rt_topx.specs.Rticx.{rticx_program}
use Rattle.rt_topx.proofs.Timing.{refused_of_image}
use Rattle.rt_topx.proofs.timed.read_limits_of.Goals as goal

pub returns-in-Ok-None-clause-reads : goal.returns-in-Ok-None-clause-reads
returns-in-Ok-None-clause-reads g c t is =
    let read = rw c.in-Ok-None.field-0-is at c.in-Ok-None.ensures in
    refusal_reads rticx_program kind.ImageLimits t _ _ read.0 read.0.1 status.Text (SaysLimits in_limits.TooLong)
    (λ line says. (refl, refused_of_image _ is in_limits.TooLong (too_long read.1) says)) c.refuse_limits.result
    c.refuse_limits.ensures

pub returns-in-Err-clause-reads : goal.returns-in-Err-clause-reads
returns-in-Err-clause-reads g c t is = stop c.in-Err.status c.in-Err.ensures

pub returns-clause-reads : goal.returns-clause-reads
returns-clause-reads g c t is =
    let read = rw c.in-Ok-Some.field-0-is at c.in-Ok-Some.ensures in
    let refusal = c.in-Err-read_image_limits.refusal in
    let refused = subst (λ text. AreImageLimitsRefused c.args.image.now text refusal)
    (c.deref.ensures.value ∙ read.1) c.in-Err-read_image_limits.ensures.refused in
    refusal_reads rticx_program kind.ImageLimits t _ _ read.0 read.0.1 status.Text (SaysLimits refusal)
    (λ line says. (refl, refused_of_image _ is refusal refused says))
    c.refuse_limits-in-Err-read_image_limits.result c.refuse_limits-in-Err-read_image_limits.ensures
