use Rattle.std.proofs.Common.{ap, ◌∙◌, ◌+◌, sym}
use Rattle.rt_core.specs.Core as spec
use Rattle.rt_core.specs.Machine.{Machine}
use Rattle.rt_core.proofs.Contexts.{number_of_none, number_of_some}
use Rattle.rt_core.proofs.machine.Core.exception_number.Goals as goal

pub returns-in-Some : goal.returns-in-Some
returns-in-Some c =
    ap (λ n. 16 + n) (c.from.ensures ∙ c.get.ensures.value) ∙ number_of_some c.self.inside.nvic.priorities
    c.self.inside.nvic.active c.self.inside.frames.below c.in-Some.irq c.self.invariant.active
    (sym c.in-Some.is ∙ c.last_entered.ensures)
    ∙ ap (λ (m : Machine). spec.exception_number m.core.below) c.self.view_is

pub returns-in-None : goal.returns-in-None
returns-in-None c =
    number_of_none c.self.inside.nvic.priorities c.self.inside.nvic.active c.self.inside.frames.below
    (sym c.in-None.is ∙ c.last_entered.ensures)
    ∙ ap (λ (m : Machine). spec.exception_number m.core.below) c.self.view_is
