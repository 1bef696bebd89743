use Rattle.std.proofs.Common.{arith}
use Rattle.rt_app.specs.View.{app_of}
use Rattle.rt_baker.specs.Judge.{steps_done}
use Rattle.rt_inputs_audit.proofs.Opening.{opens_beyond, opens_disordered, opens_stopped, opens_by}
use Rattle.rt_inputs_audit.proofs.followed.opens.Goals as goal

pub returns-then-depth-stack : goal.returns-then-depth-stack
returns-then-depth-stack c =
    opens_beyond (app_of c.args.machine.now.code.now.app.now) c.args.state.now c.args.state.now
    (steps_done c.args.done) c.args.step c.args.irq c.args.depth c.args.stack c.requires.stack
    (omega (arith, c.if-depth-stack.true))

pub returns-then-not-pass_steps : goal.returns-then-not-pass_steps
returns-then-not-pass_steps c =
    opens_stopped (app_of c.args.machine.now.code.now.app.now) c.args.state.now c.pass_steps.new.state
    (steps_done c.args.done) c.in-Some.steps c.args.step c.args.irq c.args.depth c.in-Some.ensures.1
    c.if-not-pass_steps.ensures

pub returns-in-None : goal.returns-in-None
returns-in-None c =
    opens_disordered (app_of c.args.machine.now.code.now.app.now) c.args.state.now c.args.state.now
    (steps_done c.args.done) c.args.step c.args.irq c.args.depth c.in-None.ensures

pub returns-else-not-pass_steps : goal.returns-else-not-pass_steps
returns-else-not-pass_steps c =
    opens_by (app_of c.args.machine.now.code.now.app.now) c.args.state.now c.pass_steps.new.state
    (steps_done c.args.done) c.in-Some.steps c.args.step c.args.irq c.args.depth c.args.stack c.may_take.result
    c.requires.stack (omega (arith, c.if-depth-stack.false)) c.in-Some.ensures.0 c.in-Some.ensures.1
    c.if-not-pass_steps.ensures c.may_take.ensures.may c.may_take.ensures.may_not
