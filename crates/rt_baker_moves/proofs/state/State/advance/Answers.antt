use Rattle.std.proofs.Common.{subst}
use Rattle.rt_app.specs.View.{app_of}
use Rattle.rt_baker_moves.specs.State.{AuditorState, StateIs}
use Rattle.rt_baker_moves.proofs.state.State.advance.Goals as goal

pub returns-in_ok-go_on-in-Some : goal.returns-in_ok-go_on-in-Some
returns-in_ok-go_on-in-Some c =
    λ t h.
    (let app = app_of c.args.machine.now.code.now.app.now in
    c.in_ok-go_on-in-Some.ensures t (subst (λ (k : AuditorState). StateIs app k t) c.in-Some.ensures h))
