use Rattle.std.proofs.Common.{sym, ◌∙◌, refl, arith}
use Rattle.rt_app.specs.View.{app_of}
use Rattle.rt_baker.proofs.Allowing.{pass_none, pass_owing, pass_stopped, pass_some}
use Rattle.rt_baker.proofs.coming.pass_steps.Goals as goal

pub returns-then-steps-eq0 : goal.returns-then-steps-eq0
returns-then-steps-eq0 c =
    let app = app_of c.args.machine.now.code.now.app.now in
    pass_none app c.args.state.now c.args.steps c.if-steps-eq0.true

pub returns-then-is_owing : goal.returns-then-is_owing
returns-then-is_owing c =
    let app = app_of c.args.machine.now.code.now.app.now in
    pass_owing app c.args.state.now c.args.state.now c.args.steps (omega (
      arith,
      c.if-steps-eq0.false,
    ))
    (sym c.is_owing.ensures ∙ c.if-is_owing.true)

pub returns-then-not-may_go : goal.returns-then-not-may_go
returns-then-not-may_go c =
    let app = app_of c.args.machine.now.code.now.app.now in
    pass_stopped app c.args.state.now c.args.state.now c.args.steps (omega (
      arith,
      c.if-steps-eq0.false,
    ))
    (c.if-not-may_go.ensures.may_not refl)

pub returns : goal.returns
returns c =
    let app = app_of c.args.machine.now.code.now.app.now in
    pass_some app c.args.state.now c.spend.new.self c.args.steps
    (sym c.is_owing.ensures ∙ c.if-is_owing.false)
    (c.if-not-may_go.ensures.may refl) c.spend.ensures
