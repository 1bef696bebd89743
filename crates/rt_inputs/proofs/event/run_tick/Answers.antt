use Rattle.std.proofs.Common.{◌≡◌, [], ◌∷◌, ap, ◌∙◌, arith}
use Rattle.std.proofs.lemmas.Result.{on_ok_weaker, on_err_weaker}
use Rattle.rt_ids.specs.Event.{Tick}
use Rattle.rt_code.specs.Image.{Image}
use Rattle.rt_run.proofs.Advancing.{written, stopped_at}
use Rattle.rt_run.proofs.Happened.{tick_leads, tick_lines, tick_lined, tick_shows}
use Rattle.rt_inputs.proofs.event.run_tick.Goals as goal

pub returns-clause-ok : goal.returns-clause-ok
returns-clause-ok g c =
    let core = c.args.core.now in
    let after = c.tick-came.new.self in
    let run = tick_leads core after c.tick-came.ensures.state in
    let named = ap (λ (i : Image). i.names) (c.behind-core.view_is ∙ c.image.ensures ∙ run.image) in
    let counted : c.steps.result ≡ core.steps = omega (arith, c.steps.ensures, run.steps) in
    on_ok_weaker c.put_tick.result
    (written (Tick ∷ []) core after _ _ c.args.held.now.items _ _ run
    (tick_lined core c.tick-came.result c.requires.few c.tick-came.ensures.shown)
    (tick_lines core _ c.tick-came.result _ named counted c.tick-came.ensures.shown))
    c.put_tick.ensures.ok

pub returns-clause-err : goal.returns-clause-err
returns-clause-err g c =
    let core = c.args.core.now in
    let after = c.tick-came.new.self in
    let run = tick_leads core after c.tick-came.ensures.state in
    let named = ap (λ (i : Image). i.names) (c.behind-core.view_is ∙ c.image.ensures ∙ run.image) in
    let counted : c.steps.result ≡ core.steps = omega (arith, c.steps.ensures, run.steps) in
    on_err_weaker c.put_tick.result
    (stopped_at Tick core after _ _ c.args.held.now.items _
    (tick_shows core c.tick-came.result c.tick-came.ensures.shown) c.put_tick.ensures.few run
    (tick_lines core _ c.tick-came.result _ named counted c.tick-came.ensures.shown))
    c.put_tick.ensures.err
