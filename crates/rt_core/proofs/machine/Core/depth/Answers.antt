use Rattle.std.proofs.Common.{ap, ◌∙◌}
use Rattle.rt_core.specs.Core as spec
use Rattle.rt_core.specs.Machine.{Machine}
use Rattle.rt_core.specs.Inside.Parts.{core}
use Rattle.rt_context.specs.Frames as frame
use Rattle.rt_core.proofs.Contexts.{depth_is}
use Rattle.rt_core.proofs.machine.Core.depth.Goals as goal

pub returns-clause-bytes : goal.returns-clause-bytes
returns-clause-bytes c =
    c.depth.ensures.bytes ∙ ap frame.depth c.self.invariant.frames ∙ depth_is c.self.inside.program (core c.self.inside)
    ∙ ap (λ (m : Machine). spec.depth m.image m.core) c.self.view_is
