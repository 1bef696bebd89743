use Rattle.std.proofs.Common.{ap}
use Rattle.rt_ids.specs.Arrivals.{arrivals}
use Rattle.rt_core.specs.Inside.Parts.{core}
use Rattle.rt_core.proofs.Arriving.{arrivals_pend}
use Rattle.rt_core.proofs.machine.Core.arrive.Goals as goal

pub returns : goal.returns
returns c = rw (c.arrive.ensures.state, ← c.self.view_is)
    (ap (λ k. record { image = c.self.inside.program; core = k; steps = c.self.inside.steps })
    (arrivals_pend c.self.inside.program (arrivals c.args.k c.args.bits) (core c.self.inside)))
