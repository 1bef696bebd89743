use Rattle.std.proofs.Common.{ℕ, refl, subst, arith}
use Rattle.rt_app.specs.View.{app_of}
use Rattle.rt_laws.specs.Allowed.{after}
use Rattle.rt_baker_moves.specs.State.{StateIs}
use Rattle.rt_inputs_audit.specs.Following.{take_label}
use Rattle.rt_inputs_audit.proofs.Opening.{settled_done, settled_held, none_left, some_left}
use Rattle.rt_inputs_audit.proofs.followed.Followed.settle.Goals as goal

pub returns-then-count-eq0 : goal.returns-then-count-eq0
returns-then-count-eq0 c = λ t n h steps.
    let app = app_of c.args.machine.now.code.now.app.now in
    settled_done app _ t n c.args.step c.args.irq c.args.depth c.args.inputs.items
    (none_left c.args.inputs.items (omega (arith, c.len-count.ensures, c.if-count-eq0.true)))
    (subst (λ (irq : ℕ). StateIs app c.take.new.self (after app t (take_label irq c.args.depth))) c.get.ensures.value
    (c.in_ok-take.ensures c.args.depth t h)) c.behind-self.ensures refl

pub returns : goal.returns
returns c = λ t n h steps.
    settled_held (app_of c.args.machine.now.code.now.app.now) _ t n c.args.step c.args.irq c.args.depth
    c.args.inputs.items (some_left c.args.inputs.items
    (λ none. absurd (omega (arith, c.len-count.ensures, c.if-count-eq0.false, none)))) h
    steps refl
