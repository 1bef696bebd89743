use Rattle.std.proofs.Common.{◌++◌, inl, inr, refl, sym, ap, subst}
use Rattle.rt_ids.specs.declared.status.Status.TheVariants as status
use Rattle.rt_top.specs.Inside.Started.{IsHeading}
use Rattle.rt_topx.proofs.live.run_live.Goals as goal

pub returns-in-Ok-live-clause-ends : goal.returns-in-Ok-live-clause-ends
returns-in-Ok-live-clause-ends g c =
    let image = c.args.core.now.image in
    let front = c.deref.result.now in
    let head = subst (λ i. IsHeading i front) c.image.ensures (subst (IsHeading c.image.result.now)
    (sym c.deref.ensures.value) c.in-Ok.ensures) in
    let (shown, live, took) = c.in-Ok-live.ensures.ok in
    inl (
      status.Done,
      front ++ shown,
      (refl, head.numbers, shown, live, ap (λ l. l ++ shown) head.is),
      inl (refl, took),
    )

pub returns-in-Err-Fault-clause-ends : goal.returns-in-Err-Fault-clause-ends
returns-in-Err-Fault-clause-ends g c =
    let image = c.args.core.now.image in
    let front = c.deref.result.now in
    let head = subst (λ i. IsHeading i front) c.image.ensures (subst (IsHeading c.image.result.now)
    (sym c.deref.ensures.value) c.in-Ok.ensures) in
    let part = (rw c.in-Err-Fault.field-0-is at c.in-Err-Fault.ensures.part) refl in
    inl (
      status.Done,
      front ++ part.bytes,
      (refl, head.numbers, part.bytes, part.is, ap (λ l. l ++ part.bytes) head.is),
      inr (refl, (rw c.in-Err-Fault.field-0-is at c.in-Err-Fault.ensures.fault) refl, part.took),
    )
