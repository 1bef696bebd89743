use Rattle.std.proofs.Common.{ℕ, ap, ◌∙◌}
use Rattle.rt_app.specs.View.{app_of}
use Rattle.rt_baker.specs.Judge.{steps_done}
use Rattle.rt_baker.proofs.Allowing.{kept_early}
use Rattle.rt_inputs_audit.specs.Given.{inputs_at}
use Rattle.rt_inputs_audit.proofs.Opening.{opened_early, take_refused, take_came}
use Rattle.rt_inputs_audit.proofs.followed.Followed.take.Goals as goal

pub returns-then-not-opens : goal.returns-then-not-opens
returns-then-not-opens c =
    take_refused (app_of c.args.machine.now.code.now.app.now) c.args.board.now c.args.self.now _ c.args.step
    c.args.irq c.args.depth c.opens.new.state c.requires.free c.if-not-opens.ensures

pub settle-requires-clause-early : goal.settle-requires-clause-early
settle-requires-clause-early c =
    let app = app_of c.args.machine.now.code.now.app.now in
    kept_early app c.opens.new.state
    (opened_early app c.args.self.now.state c.opens.new.state (steps_done c.args.self.now.done) c.args.step c.args.irq
    c.args.depth c.requires.early c.if-not-opens.ensures)

pub returns : goal.returns
returns c =
    let app = app_of c.args.machine.now.code.now.app.now in
    take_came app c.args.board.now c.args.self.now c.settle.new.self c.args.step c.args.irq c.args.depth
    c.opens.new.state c.in_ok-inputs.inputs.items c.requires.free
    (c.in_ok-inputs.ensures ∙ ap (λ (n : ℕ). inputs_at app c.args.board.now n) c.get.ensures.value)
    c.if-not-opens.ensures c.in_ok-settle.ensures
