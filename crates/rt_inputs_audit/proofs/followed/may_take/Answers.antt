use Rattle.std.proofs.Common.{ℕ, ◌==◌, Some, ap, sym, ◌∙◌, eq-eqb}
use Rattle.std.proofs.lemmas.Bool.{eqb-true}
use Rattle.rt_lemmas.proofs.Bools.{true_and_false}
use Rattle.rt_app.specs.View.{app_of}
use Rattle.rt_inputs_audit.proofs.Opening.{owing_stops, other_stops, may_be_taken, none_taken, other_taken}
use Rattle.rt_inputs_audit.proofs.followed.may_take.Goals as goal

pub returns-then-is_owing-clause-may_not : goal.returns-then-is_owing-clause-may_not
returns-then-is_owing-clause-may_not c = λ e t h depth may.
    owing_stops (app_of c.args.machine.now.code.now.app.now) c.args.state.now c.is_owing.result c.is_owing.ensures
    c.if-is_owing.true t h c.args.irq depth may

pub returns-in-None-clause-may_not : goal.returns-in-None-clause-may_not
returns-in-None-clause-may_not c = λ e t h depth.
    other_stops (app_of c.args.machine.now.code.now.app.now) c.args.state.now c.candidate.result c.candidate.ensures
    c.args.irq (none_taken c.args.irq c.candidate.result c.in-None.is) t h depth

pub returns-in-Some-clause-may : goal.returns-in-Some-clause-may
returns-in-Some-clause-may c = λ e t h depth.
    may_be_taken (app_of c.args.machine.now.code.now.app.now) c.args.state.now c.candidate.result c.is_owing.result
    c.candidate.ensures c.args.irq
    (c.in-Some.is ∙ ap (λ (n : ℕ). Some n)
    (eqb-true c.in-Some.first c.get-number.result e ∙ c.get-number.ensures.value))
    c.is_owing.ensures c.if-is_owing.false t h depth

pub returns-in-Some-clause-may_not : goal.returns-in-Some-clause-may_not
returns-in-Some-clause-may_not c = λ e t h depth.
    other_stops (app_of c.args.machine.now.code.now.app.now) c.args.state.now c.candidate.result c.candidate.ensures
    c.args.irq
    (other_taken c.args.irq c.in-Some.first c.candidate.result c.in-Some.is
    (λ same. true_and_false (c.in-Some.first == c.get-number.result)
    (eq-eqb c.in-Some.first c.get-number.result (same ∙ sym c.get-number.ensures.value)) e)) t h depth
