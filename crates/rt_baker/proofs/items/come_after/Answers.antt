use Rattle.std.proofs.Common.{Bool, ap, ◌∙◌, subst}
use Rattle.rt_app.specs.View.{app_of}
use Rattle.rt_laws.specs.ByItems.{label_of, steps_after}
use Rattle.rt_baker.specs.Judge.{steps_done}
use Rattle.rt_baker.specs.Judging.{Judges}
use Rattle.rt_baker.proofs.Verdicts.{item_disordered, item_stopped, still_early, item_refused, item_comes}
use Rattle.rt_baker.proofs.items.come_after.Goals as goal

pub returns-then-not-pass_steps : goal.returns-then-not-pass_steps
returns-then-not-pass_steps c =
    let app = app_of c.args.machine.now.code.now.app.now in
    item_stopped app c.args.state.now c.pass_steps.new.state (steps_done c.args.done)
    c.in-Some.steps c.args.item.now
    c.in-Some.ensures.1 c.if-not-pass_steps.ensures

pub come-requires-clause-early : goal.come-requires-clause-early
come-requires-clause-early c =
    let app = app_of c.args.machine.now.code.now.app.now in
    still_early app c.args.state.now c.pass_steps.new.state c.in-Some.steps
    c.requires.early c.if-not-pass_steps.ensures

pub returns-then-not-came : goal.returns-then-not-came
returns-then-not-came c =
    let app = app_of c.args.machine.now.code.now.app.now in
    item_refused app c.args.state.now c.pass_steps.new.state c.come.new.state (steps_done
    c.args.done) c.in-Some.steps
    c.args.item.now c.in-Some.ensures.1 c.if-not-pass_steps.ensures
    (subst (λ (b : Bool). Judges app b c.pass_steps.new.state c.come.new.state
    c.args.item.now.what)
    c.if-not-came.true c.in_ok-came-in-Some.ensures)

pub returns-in-None : goal.returns-in-None
returns-in-None c =
    let app = app_of c.args.machine.now.code.now.app.now in
    item_disordered app c.args.state.now c.args.state.now (steps_done c.args.done)
    c.args.item.now c.in-None.ensures

pub returns-else-not-came : goal.returns-else-not-came
returns-else-not-came c =
    let app = app_of c.args.machine.now.code.now.app.now in
    item_comes app c.args.state.now c.pass_steps.new.state c.come.new.state (steps_done
    c.args.done) c.in-Some.steps
    c.args.item.now c.behind-behind.result c.in-Some.ensures.0 c.in-Some.ensures.1 c.if-not-pass_steps.ensures
    (subst (λ (b : Bool). Judges app b c.pass_steps.new.state c.come.new.state
    c.args.item.now.what)
    c.if-not-came.false c.in_ok-came-in-Some.ensures)
    (c.behind-behind.ensures
    ∙ ap (λ (owing : Bool). steps_after c.args.item.now.step (label_of owing c.args.item.now.what)) c.is_owing.ensures)
