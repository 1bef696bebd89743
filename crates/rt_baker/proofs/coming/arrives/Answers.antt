use Rattle.std.proofs.Common.{sym, ◌∙◌}
use Rattle.rt_app.specs.View.{app_of}
use Rattle.rt_baker.proofs.Allowing.{arrived, not_declared}
use Rattle.rt_baker.proofs.coming.arrives.Goals as goal

pub returns-then-not-is_declared : goal.returns-then-not-is_declared
returns-then-not-is_declared c =
    not_declared (app_of c.args.machine.now.code.now.app.now) c.args.state.now c.args.state.now c.args.irq
    c.get-number.result c.get-number.ensures.value (sym c.is_declared.ensures ∙ c.if-not-is_declared.true)

pub returns : goal.returns
returns c =
    arrived (app_of c.args.machine.now.code.now.app.now) c.args.state.now c.arrive.new.self c.args.irq
    c.get-number.result c.requires.free c.get-number.ensures.value
    (sym c.is_declared.ensures ∙ c.if-not-is_declared.false) c.in_ok-arrive.ensures
