use Rattle.std.proofs.Common.{sym, subst}
use Rattle.rt_app.specs.View.{app_of}
use Rattle.rt_laws.specs.Acting.{state_after_pend}
use Rattle.rt_baker_moves.specs.State.{AuditorState, StateIs}
use Rattle.rt_baker_moves.proofs.Pending.{pended_stands}
use Rattle.rt_baker_moves.proofs.state.State.arrive.Goals as goal

pub returns : goal.returns
returns c =
    λ t h.
    (let app = app_of c.args.machine.now.code.now.app.now in
    subst (λ (k : AuditorState). StateIs app k (state_after_pend c.args.irq t)) (sym c.in_ok-pend.ensures)
    (pended_stands app c.requires.code.accepted c.args.irq c.args.self.now t h))
