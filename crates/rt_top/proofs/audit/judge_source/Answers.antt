use Rattle.std.proofs.Common.{refl}
use Rattle.rt_ids.specs.declared.status.Status.TheVariants as status
use Rattle.rt_top.specs.Inside.Using.{for_memory, stop}
use Rattle.rt_top.proofs.audit.judge_source.Goals as goal

pub returns-in_default : goal.returns-in_default
returns-in_default g c first is = stop status.Memory (for_memory refl)

pub returns-in_default-new : goal.returns-in_default-new
returns-in_default-new g c first is = stop status.Memory (for_memory refl)

pub returns : goal.returns
returns g c first is =
    (rw c.code-code.ensures.app at (rw c.machine-machine.ensures.code at c.judge_lines.ensures)) first is
