use Rattle.std.proofs.Common.{◌++◌, refl, sym, ap, subst}
use Rattle.rt_outside.specs.Faults.{Rose}
use Rattle.rt_app.specs.View.{app_of}
use Rattle.rt_inputs.specs.Script.{text_with_inputs}
use Rattle.rt_top.specs.Inside.Started.{IsHeading}
use Rattle.rt_top.proofs.Ran.{all_ends, part_ends, front_ends}
use Rattle.rt_topx.specs.Inside.Started.{ShowsRun}
use Rattle.rt_topx.proofs.run.run_script.Goals as goal

pub returns-in-Ok-run_with_inputs-clause-ends : goal.returns-in-Ok-run_with_inputs-clause-ends
returns-in-Ok-run_with_inputs-clause-ends g c =
    let image = c.args.core.now.image in
    let front = c.deref.result.now in
    let head = subst (λ i. IsHeading i front) c.image.ensures (subst (IsHeading c.image.result.now)
    (sym c.deref.ensures.value) c.in-Ok.ensures) in
    let shown = text_with_inputs (app_of c.args.app.now) image c.args.board.now c.args.script.now in
    all_ends (ShowsRun (app_of c.args.app.now) image c.args.board.now c.args.script.now) front shown
    (refl, head.numbers, ap (λ l. l ++ shown) head.is)
    _ _ _ _ _ c.in-Ok-put_all.ensures.ok c.in-Ok-run_with_inputs.ensures.ok

pub returns-in-Ok-put_all-clause-ends : goal.returns-in-Ok-put_all-clause-ends
returns-in-Ok-put_all-clause-ends g c =
    let image = c.args.core.now.image in
    let front = c.deref.result.now in
    let head = subst (λ i. IsHeading i front) c.image.ensures (subst (IsHeading c.image.result.now)
    (sym c.deref.ensures.value) c.in-Ok.ensures) in
    let shown = text_with_inputs (app_of c.args.app.now) image c.args.board.now c.args.script.now in
    part_ends (ShowsRun (app_of c.args.app.now) image c.args.board.now c.args.script.now) front shown
    (refl, head.numbers, ap (λ l. l ++ shown) head.is)
    _ _ _ _ _ (subst (λ n. Rose n (g.K.Sink.faults c.run_with_inputs.new.out)) c.in-Ok-put_all.ensures.quiet
    (c.in-Err-run_with_inputs.ensures.cause.failed refl)) c.in-Ok-put_all.ensures.ok
    c.in-Err-run_with_inputs.ensures.err

pub returns-clause-ends : goal.returns-clause-ends
returns-clause-ends g c =
    let image = c.args.core.now.image in
    let front = c.deref.result.now in
    let head = subst (λ i. IsHeading i front) c.image.ensures (subst (IsHeading c.image.result.now)
    (sym c.deref.ensures.value) c.in-Ok.ensures) in
    let shown = text_with_inputs (app_of c.args.app.now) image c.args.board.now c.args.script.now in
    front_ends (ShowsRun (app_of c.args.app.now) image c.args.board.now c.args.script.now) front shown
    (refl, head.numbers, ap (λ l. l ++ shown) head.is)
    _ (g.K.Sink.taken c.put_all.new.sink) _ _ _ (c.in-Err.ensures.cause.failed refl) c.in-Err.ensures.err
