use Rattle.std.proofs.Common.{◌++◌, ℕ, refl, sym, ap, subst, List}
use Rattle.rt_live.specs.Output.{IsLiveText, TookPart}
use Rattle.rt_live.proofs.Outputs.{some_text}
use Rattle.rt_outside.specs.Bytes.{Took}
use Rattle.rt_outside.specs.Faults.{Rose}
use Rattle.rt_script.specs.declared.line.Line.{Line}
use Rattle.rt_top.specs.Inside.Started.{IsHeading, ShowsLive}
use Rattle.rt_top.proofs.Ran.{all_ends, part_ends, front_ends}
use Rattle.rt_top.proofs.live.run_live.Goals as goal

pub returns-in-Ok-run_beside-clause-ends : goal.returns-in-Ok-run_beside-clause-ends
returns-in-Ok-run_beside-clause-ends g c =
    let image = c.args.core.now.image in
    let front = c.deref.result.now in
    let head = subst (λ i. IsHeading i front) c.image.ensures (subst (IsHeading c.image.result.now)
    (sym c.deref.ensures.value) c.in-Ok.ensures) in
    let (shown, live, took) = subst (λ (asked : List Line). (shown : List ℕ) × IsLiveText image asked shown
    × Took (g.K.Sink.taken c.put_all.new.sink) (g.K.Sink.taken c.run_beside.new.out) shown) c.in-Ok-of.ensures.script
    c.in-Ok-run_beside.ensures.ok in
    all_ends (ShowsLive image c.args.script.now) front shown
    (refl, head.numbers, shown, live, ap (λ l. l ++ shown) head.is) _ _ _ _ _ c.in-Ok-put_all.ensures.ok took

pub returns-in-Ok-put_all-clause-ends : goal.returns-in-Ok-put_all-clause-ends
returns-in-Ok-put_all-clause-ends g c =
    let image = c.args.core.now.image in
    let front = c.deref.result.now in
    let head = subst (λ i. IsHeading i front) c.image.ensures (subst (IsHeading c.image.result.now)
    (sym c.deref.ensures.value) c.in-Ok.ensures) in
    let part = subst (λ (asked : List Line). TookPart image asked (g.K.Sink.taken c.put_all.new.sink)
    (g.K.Sink.taken c.run_beside.new.out)) c.in-Ok-of.ensures.script c.in-Err-run_beside.ensures.err in
    part_ends (ShowsLive image c.args.script.now) front part.bytes
    (refl, head.numbers, part.bytes, part.is, ap (λ l. l ++ part.bytes) head.is) _ _ _ _ _
    (subst (λ n. Rose n (g.K.Sink.faults c.run_beside.new.out)) c.in-Ok-put_all.ensures.quiet
    (c.in-Err-run_beside.ensures.cause.failed refl)) c.in-Ok-put_all.ensures.ok part.took

pub returns-clause-ends : goal.returns-clause-ends
returns-clause-ends g c =
    let image = c.args.core.now.image in
    let front = c.deref.result.now in
    let head = subst (λ i. IsHeading i front) c.image.ensures (subst (IsHeading c.image.result.now)
    (sym c.deref.ensures.value) c.in-Ok.ensures) in
    let ready = c.in-Ok-of in
    let (shown, live) = subst (λ (asked : List Line). (shown : List ℕ) × IsLiveText image asked shown)
    ready.ensures.script (some_text image ready.ensures.ready) in
    front_ends (ShowsLive image c.args.script.now) front shown
    (refl, head.numbers, shown, live, ap (λ l. l ++ shown) head.is) _ (g.K.Sink.taken c.put_all.new.sink) _ _ _
    (c.in-Err.ensures.cause.failed refl) c.in-Err.ensures.err
