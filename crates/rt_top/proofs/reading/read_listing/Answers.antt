use Rattle.std.proofs.Common.{refl, subst, ◌∙◌}
use Rattle.rt_ids.specs.declared.status.Status.TheVariants as status
use Rattle.rt_load.specs.Reading.{IsListingRefused}
use Rattle.rt_load.specs.declared.refusal.LoadRefused.TheVariants as in_image
use Rattle.rt_top.specs.Kinds as kind
use Rattle.rt_top.specs.Rtic.{rtic_program}
use Rattle.rt_top.specs.Verified.{SaysImage}
use Rattle.rt_top.specs.Inside.Using.{stop}
use Rattle.rt_top.proofs.Conducting.{refusal_reads}
use Rattle.rt_top.proofs.reading.read_listing.Goals as goal

pub returns-in-Ok-None-clause-reads : goal.returns-in-Ok-None-clause-reads
returns-in-Ok-None-clause-reads g c =
    let read = rw c.in-Ok-None.field-0-is at c.in-Ok-None.ensures in
    refusal_reads rtic_program kind.Listing _ _ _ read.0 read.0.1 status.Text (SaysImage in_image.TooLong)
    (λ line says. (refl, (in_image.TooLong, read.1, says))) c.refuse_image.result c.refuse_image.ensures

pub returns-in-Err-clause-reads : goal.returns-in-Err-clause-reads
returns-in-Err-clause-reads g c = stop c.in-Err.status c.in-Err.ensures

pub returns-clause-reads : goal.returns-clause-reads
returns-clause-reads g c =
    let read = rw c.in-Ok-Some.field-0-is at c.in-Ok-Some.ensures in
    let refusal = c.in-Err-load.refusal in
    let refused = subst (λ m. IsListingRefused m refusal) (c.deref.ensures.value
    ∙ read.1) c.in-Err-load.ensures.refused in
    refusal_reads rtic_program kind.Listing _ _ _ read.0 read.0.1 status.Text (SaysImage refusal)
    (λ line says. (refl, (refusal, refused, says))) c.refuse_image-in-Err-load.result c.refuse_image-in-Err-load.ensures
