use Rattle.std.proofs.Common.{refl, subst, ◌∙◌}
use Rattle.rt_app.specs.View.{app_of}
use Rattle.rt_ids.specs.declared.status.Status.TheVariants as status
use Rattle.rt_rta.specs.Text.{AreLimitsRefused, too_long}
use Rattle.rt_rta.specs.declared.refusal.LimitsRefused.TheVariants as in_limits
use Rattle.rt_top.specs.Kinds as kind
use Rattle.rt_top.specs.Rtic.{rtic_program}
use Rattle.rt_top.specs.SecondRefusal.{SaysLimits}
use Rattle.rt_top.specs.Inside.Using.{stop}
use Rattle.rt_top.proofs.Conducting.{refusal_reads, refused_over}
use Rattle.rt_top.proofs.times.read_limits_of.Goals as goal

pub returns-in-Ok-None-clause-reads : goal.returns-in-Ok-None-clause-reads
returns-in-Ok-None-clause-reads g c first is =
    let app = app_of c.args.app.now in
    let read = rw c.in-Ok-None.field-0-is at c.in-Ok-None.ensures in
    refusal_reads rtic_program kind.Limits first _ _ read.0 read.0.1 status.Text (SaysLimits in_limits.TooLong)
    (λ line says. (refl, refused_over app is in_limits.TooLong (too_long read.1) says)) c.refuse_limits.result
    c.refuse_limits.ensures

pub returns-in-Err-clause-reads : goal.returns-in-Err-clause-reads
returns-in-Err-clause-reads g c first is = stop c.in-Err.status c.in-Err.ensures

pub returns-clause-reads : goal.returns-clause-reads
returns-clause-reads g c first is =
    let app = app_of c.args.app.now in
    let read = rw c.in-Ok-Some.field-0-is at c.in-Ok-Some.ensures in
    let refusal = c.in-Err-read_limits.refusal in
    let refused = subst (λ m. AreLimitsRefused app m refusal) (c.deref.ensures.value ∙ read.1)
    c.in-Err-read_limits.ensures.refused in
    refusal_reads rtic_program kind.Limits first _ _ read.0 read.0.1 status.Text (SaysLimits refusal)
    (λ line says. (refl, refused_over app is refusal refused says)) c.refuse_limits-in-Err-read_limits.result
    c.refuse_limits-in-Err-read_limits.ensures
