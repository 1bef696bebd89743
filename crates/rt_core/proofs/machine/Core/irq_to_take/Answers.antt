use Rattle.std.proofs.Common.{refl, ap, ◌∙◌, subst, option_map}
use Rattle.rt_core.specs.Priority as priority
use Rattle.rt_core.specs.Machine.{Machine}
use Rattle.rt_core.specs.Inside.Parts.{core}
use Rattle.rt_core.proofs.Numbers.{picked_is, IsPicked}
use Rattle.rt_core.proofs.Renewing.{kept_is}
use Rattle.rt_core.proofs.machine.Core.irq_to_take.Goals as goal

pub returns : goal.returns
returns c =
    let picked : IsPicked c.self.inside.nvic c.self.inside.execution c.pick.result =
    record { ready = c.pick.ensures.ready; first = c.pick.ensures.first; none = c.pick.ensures.none } in
    picked_is c.self.inside.program c.self.invariant.runnable (core c.self.inside) c.self.inside.nvic
    c.pick.ensures.sizes refl c.self.invariant.priorities c.pick.result
    (subst (λ e. IsPicked c.self.inside.nvic e c.pick.result) (kept_is c.self.inside c.self.invariant) picked)
    ∙ ap (λ (m : Machine). option_map (λ row. row.number) (priority.pick m.image m.core)) c.self.view_is
