use Rattle.std.proofs.Common.{ℕ, Some, ap, ◌∙◌}
use Rattle.rt_app.specs.View.{app_of}
use Rattle.rt_baker.proofs.Allowing.{kept_early, taken, not_taken, none_first, other_first}
use Rattle.rt_baker.proofs.coming.takes.Goals as goal

pub returns-then-first-number : goal.returns-then-first-number
returns-then-first-number c =
    let app = app_of c.args.machine.now.code.now.app.now in
    not_taken app c.args.state.now c.args.state.now c.args.irq c.get-number.result
    c.candidate.result
    c.get-number.ensures.value
    (other_first c.get-number.result c.in-Some.first c.candidate.result c.in-Some.is c.if-first-number.true)
    c.candidate.ensures

pub returns-in-None : goal.returns-in-None
returns-in-None c =
    let app = app_of c.args.machine.now.code.now.app.now in
    not_taken app c.args.state.now c.args.state.now c.args.irq c.get-number.result
    c.candidate.result
    c.get-number.ensures.value (none_first c.get-number.result c.candidate.result c.in-None.is) c.candidate.ensures

pub take-requires-clause-early : goal.take-requires-clause-early
take-requires-clause-early c =
    kept_early (app_of c.args.machine.now.code.now.app.now) c.args.state.now c.requires.early

pub returns-in_ok-take-in-Some : goal.returns-in_ok-take-in-Some
returns-in_ok-take-in-Some c =
    let app = app_of c.args.machine.now.code.now.app.now in
    taken app c.args.state.now c.take.new.self c.args.irq c.get-number.result
    c.candidate.result c.requires.free
    c.get-number.ensures.value (c.in-Some.is ∙ ap (λ (n : ℕ). Some n) c.if-first-number.false) c.candidate.ensures
    c.in_ok-take-in-Some.ensures
