use Rattle.std.proofs.Common.{◌≡◌, false, sym, ap, ◌∙◌}
use Rattle.rt_core.specs.Machine.{Machine}
use Rattle.rt_core.specs.Outcome.{settle}
use Rattle.rt_core.proofs.Happening.{steps_by_cause, going_steps, instruction_steps}
use Rattle.rt_core.proofs.machine.Core.begin.Goals as goal

pub returns-then-self-clause-begun : goal.returns-then-self-clause-begun
returns-then-self-clause-begun c =
    let core = c.args.self.now in
    steps_by_cause.stopped core.image core.core (ap (λ (m : Machine). m.core.stopped) (sym c.self.view_is)
    ∙ c.if-self.true)

pub returns-in-Some-clause-begun : goal.returns-in-Some-clause-begun
returns-in-Some-clause-begun c =
    let core = c.args.self.now in
    going_steps core.image core.core (ap (λ (m : Machine). m.core.stopped) (sym c.self.view_is) ∙ c.if-self.false)

pub returns-clause-begun : goal.returns-clause-begun
returns-clause-begun c =
    let core = c.args.self.now in
    let goes : core.core.stopped ≡ false = ap (λ (m : Machine). m.core.stopped) (sym c.self.view_is)
    ∙ c.if-self.false in
    instruction_steps core.image core.core goes (sym c.irq_to_take.ensures ∙ c.in_default.is)
    ∙ ap settle c.go.ensures.begun
