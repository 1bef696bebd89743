use Rattle.std.proofs.Common.{◌∙◌, sym, ap, subst}
use Rattle.rt_app.specs.View.{app_of}
use Rattle.rt_baker_moves.specs.Job.{AuditorJob}
use Rattle.rt_baker_moves.specs.State.{StateIs}
use Rattle.rt_baker_moves.specs.Inside.Acts.{held_with_job}
use Rattle.rt_baker_moves.proofs.Early.{seen_next}
use Rattle.rt_baker_moves.proofs.state.State.go_on.Goals as goal

pub follow-requires-clause-seen : goal.follow-requires-clause-seen
follow-requires-clause-seen c =
    seen_next c.args.job c.next.new.self c.in-Some.todo c.in-Some.ensures c.requires.settled

pub returns-in_ok-finish-in-None : goal.returns-in_ok-finish-in-None
returns-in_ok-finish-in-None c =
    λ t h.
    (let app = app_of c.args.machine.now.code.now.app.now in
    let s = c.args.self.now in
    c.in_ok-finish-in-None.ensures (ap (λ (j : AuditorJob). j.work.todos) c.in-None.ensures.1 ∙ c.in-None.ensures.0) t
    (subst (λ (j : AuditorJob). StateIs app (held_with_job s j s.store) t) (sym c.in-None.ensures.1) h))

pub returns-in_ok-follow-in-Some : goal.returns-in_ok-follow-in-Some
returns-in_ok-follow-in-Some c =
    λ t h.
    (let app = app_of c.args.machine.now.code.now.app.now in
    let s = c.args.self.now in
    c.in_ok-follow-in-Some.ensures t
    (subst (λ (j : AuditorJob). StateIs app (held_with_job s j s.store) t) c.in-Some.ensures
    h))
