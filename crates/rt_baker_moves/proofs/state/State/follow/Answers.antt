use Rattle.std.proofs.Common.{subst}
use Rattle.rt_app.specs.View.{app_of}
use Rattle.rt_baker_work.specs.declared.todo.Todo.{Todo}
use Rattle.rt_baker_moves.specs.State.{StateIs}
use Rattle.rt_baker_moves.specs.Inside.Acts.{held_with_job}
use Rattle.rt_baker_moves.specs.Inside.Moves.{with_next}
use Rattle.rt_baker_moves.proofs.state.State.follow.Goals as goal

pub returns-in_ok-act-in-Act : goal.returns-in_ok-act-in-Act
returns-in_ok-act-in-Act c =
    λ t h.
    (let app = app_of c.args.machine.now.code.now.app.now in
    let s = c.args.self.now in
    c.in_ok-act-in-Act.ensures t
    (subst (λ (todo : Todo). StateIs app (held_with_job s (with_next todo c.args.job) s.store) t)
    c.in-Act.is h))

pub returns-in_ok-read-in-Clock : goal.returns-in_ok-read-in-Clock
returns-in_ok-read-in-Clock c =
    λ t h.
    (let app = app_of c.args.machine.now.code.now.app.now in
    let s = c.args.self.now in
    c.in_ok-read-in-Clock.ensures t
    (subst (λ (todo : Todo). StateIs app (held_with_job s (with_next todo c.args.job) s.store)
    t) c.in-Clock.is h))
